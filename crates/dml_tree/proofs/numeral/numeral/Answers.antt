use Rattle.std.proofs.Common.{◌+◌, sym, subst}
use Rattle.dml_tree.specs.LineTokens.{IsNext}
use Rattle.dml_tree.specs.declared.token.Lexeme.{Lexeme}
use Rattle.dml_tree.proofs.Numerals.{numeral_is_next, no_numeral, numeral_len-is, has_point-is, fraction-is, read_whole}
use Rattle.dml_tree.proofs.numeral.numeral.Goals as goal

pub slice_bounds-read-end : goal.slice_bounds-read-end
slice_bounds-read-end c =
    let fraction = fraction-is c.args.bytes.now c.digits-whole.result c.fraction_len-fraction.result c.fraction_len-fraction.ensures in
    read_whole c.args.bytes.now (c.digits-whole.result + c.fraction_len-fraction.result)
    (numeral_len-is c.args.bytes.now c.digits-whole.result c.fraction_len-fraction.result c.digits-whole.ensures.front fraction)

pub returns-in-Ok : goal.returns-in-Ok
returns-in-Ok c =
    let fraction = fraction-is c.args.bytes.now c.digits-whole.result c.fraction_len-fraction.result c.fraction_len-fraction.ensures in
    let P : Lexeme → Type 0 = λ what. IsNext c.args.bytes.now what (c.digits-whole.result + c.fraction_len-fraction.result) in
    subst P (sym c.lexeme.ensures)
    (numeral_is_next c.args.bytes.now (c.digits-whole.result + c.fraction_len-fraction.result) _ c.in-Ok.number c.requires
    (numeral_len-is c.args.bytes.now c.digits-whole.result c.fraction_len-fraction.result c.digits-whole.ensures.front fraction)
    (has_point-is c.args.bytes.now c.digits-whole.result c.fraction_len-fraction.result c.digits-whole.ensures.front fraction)
    ((c.in-Ok.ensures.value c.in-Ok.number).0 (cc)))

pub returns-in-Err : goal.returns-in-Err
returns-in-Err c =
    let fraction = fraction-is c.args.bytes.now c.digits-whole.result c.fraction_len-fraction.result c.fraction_len-fraction.ensures in
    no_numeral c.args.bytes.now (c.digits-whole.result + c.fraction_len-fraction.result) c.requires
    (numeral_len-is c.args.bytes.now c.digits-whole.result c.fraction_len-fraction.result c.digits-whole.ensures.front fraction)
    (λ units read. let both = (c.in-Err.ensures.value units).1 read in cc)
