use Rattle.std.proofs.Common.{subst, sym}
use Rattle.std.specs.Prelude.{MatchOption, Option}
use Rattle.dml_tree.specs.declared.next.Found.{Found}
use Rattle.dml_tree.specs.LineTokens.{IsNext}
use Rattle.dml_tree.specs.inside.Scanning.{NoneIsNext}
use Rattle.dml_tree.proofs.Symbols.{BeginsLikeASymbol, symbol_is_next, no_symbol}
use Rattle.dml_tree.proofs.next.symbol.Goals as goal

pub returns-in_err-symbol : goal.returns-in_err-symbol
returns-in_err-symbol c =
    let P : Option Found → Type 0 = λ r. MatchOption r (NoneIsNext c.args.bytes.now) (λ found. IsNext c.args.bytes.now found.what found.len) in
    let begins : BeginsLikeASymbol c.args.bytes.now c.in_ok-first.field-0.now =
    record { first = c.in_ok-first.ensures.value; no_letter = c.requires.no_letter; no_digit = c.requires.no_digit; no_quote = c.requires.no_quote } in
    subst P (sym c.from_residual-in_err-symbol.ensures) (no_symbol c.args.bytes.now c.in_ok-first.field-0.now begins c.in_err-symbol.ensures)

pub returns : goal.returns
returns c =
    let begins : BeginsLikeASymbol c.args.bytes.now c.in_ok-first.field-0.now =
    record { first = c.in_ok-first.ensures.value; no_letter = c.requires.no_letter; no_digit = c.requires.no_digit; no_quote = c.requires.no_quote } in
    symbol_is_next c.args.bytes.now c.in_ok-first.field-0.now c.in_ok-symbol.symbol begins c.in_ok-symbol.ensures
