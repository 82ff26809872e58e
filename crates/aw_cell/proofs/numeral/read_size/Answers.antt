use Rattle.std.specs.Prelude.{[], ◌+◌, take, drop}
use Rattle.std.proofs.lemmas.List.{take_rest}
use Rattle.aw_cell.specs.Numeral.{SpellsParts, SpellsSize}
use Rattle.aw_cell.proofs.Numerals.{unpointed, unpointed_back, pointed_at, pointed_back}
use Rattle.aw_cell.proofs.NumeralSteps.{ReadsCount-alike}
use Rattle.aw_cell.proofs.numeral.read_size.Goals as goal

pub returns-in-None : goal.returns-in-None
returns-in-None c =
    let text = c.args.text.now in
    ReadsCount-alike (SpellsParts text []) (SpellsSize text) (unpointed_back text) (λ n. unpointed text n c.in-None.ensures)
    c.count_of.result c.count_of.ensures

pub returns-in-Some : goal.returns-in-Some
returns-in-Some c = λ count s. (pointed_at c.args.text.now c.in-Some.at count c.in-Some.ensures s).more c.if-at-text.true

pub returns-in-Some-2 : goal.returns-in-Some-2
returns-in-Some-2 c =
    let text = c.args.text.now in
    let at = c.in-Some.at in
    ReadsCount-alike (SpellsParts (take at text) (drop (at + 1) text)) (SpellsSize text)
    (λ n. pointed_back text at n c.in-Some.ensures c.if-at-text.false)
    (λ n s. (pointed_at text at n c.in-Some.ensures s).parts)
    c.count_of-in-Some-2.result (simp take_rest at c.count_of-in-Some-2.ensures)
