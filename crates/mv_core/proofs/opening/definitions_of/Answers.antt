use Rattle.std.proofs.Common.{◌≤◌, ◌∙◌, List, [], ◌∷◌, ◌++◌, length, arith, sym, ap, subst, Vec, Global}
use Rattle.aw_schema.specs.declared.definition.Def.{Def}
use Rattle.mv_core.proofs.FirstObjects.{copied-next, copied-all, never-none}
use Rattle.mv_core.proofs.opening.definitions_of.Goals as goal
use Rattle.mv_core.proofs.opening.definitions_of.Goals.{in-Some+in_ok-copied+in_ok-push, in_default}
use Rattle.aw_schema.proofs.callers.AcceptedCatalogues.{accepted_few}

pub overflow_cast-at : goal.overflow_cast-at
overflow_cast-at c =
    omega (arith, c.loop-at-test.true, c.len-len.ensures.value, accepted_few c.args.catalogue.now c.len-len.ensures.accepted)

pub loop-at-preserved : goal.loop-at-preserved
loop-at-preserved c =
    elim c.match-def.branch [
      | in-Some+in_ok-copied+in_ok-push w ↦
          copied-next c.args.catalogue.now c.loop-at.definitions.items c.match-def.definitions.items c.loop-at.at w.in-Some.def.now (omega (arith, c.loop-at-test.true, c.len-len.ensures.value)) (sym w.in-Some.ensures) (ap (λ (definitions : Vec Def Global). definitions.items) w.definitions-is ∙ w.in_ok-push.ensures.items ∙ ap (λ (def : Def). c.loop-at.definitions.items ++ def ∷ []) w.in_ok-copied.ensures) c.loop-at.invariant
      | in_default w ↦ absurd (never-none c.args.catalogue.now c.loop-at.at (omega (arith, c.loop-at-test.true, c.len-len.ensures.value)) (sym w.in_default.ensures))
    ]

pub returns-clause-most : goal.returns-clause-most
returns-clause-most c =
    subst (λ (definitions : List Def). length definitions ≤ 4096) (sym (copied-all c.args.catalogue.now c.loop-at.definitions.items c.loop-at.at (omega (arith, c.loop-at-test.false, c.len-len.ensures.value)) c.loop-at.invariant)) (accepted_few c.args.catalogue.now c.len-len.ensures.accepted)
