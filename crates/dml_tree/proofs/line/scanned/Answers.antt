use Rattle.std.proofs.Common.{◌+◌, List, refl, sym, subst}
use Rattle.dml_tree.specs.declared.token.Token.{Token}
use Rattle.dml_tree.proofs.LineWalk.{Walked, walked_on}
use Rattle.dml_tree.proofs.line.scanned.Goals as goal

pub loop-start-preserved : goal.loop-start-preserved
loop-start-preserved c =
    let P : List Token → Type 0 = λ tokens. Walked c.args.line.now c.args.from (c.in-Some.start + c.in-Some-next.found.len) tokens in
    subst P (sym c.in_ok-push-in-Some-next.ensures.ok)
    (walked_on c.args.line.now c.args.from c.loop-start.at c.in-Some.start c.in-Some-next.found.len c.loop-start.tokens _ c.loop-start.invariant c.in-Some.ensures
    refl refl c.in-Some-next.ensures)
