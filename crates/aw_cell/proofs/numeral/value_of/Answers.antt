use Rattle.std.proofs.Common.{◌≡◌, rules}
use Rattle.aw_cell.proofs.Numerals.{IsUtf8-digits, value-parsed}
use Rattle.aw_cell.proofs.numeral.value_of.Goals as goal

pub returns-in_err-ok : goal.returns-in_err-ok
returns-in_err-ok c = let utf8 = IsUtf8-digits c.args.digits.now c.requires.digits in search rules

pub returns : goal.returns
returns c =
    let same : c.in_ok-ok.field-0.now ≡ c.args.digits.now = search rules in
    rw c.ok-2.ensures.value (value-parsed c.args.digits.now c.parse.result c.requires.some c.requires.digits (rw same at c.parse.ensures.value.0))
