use Rattle.std.proofs.Common.{rules, arith, sym, subst, ◌≡◌, ◌<◌, ◌+◌, ◌++◌, ℕ, true, false, List, [], ◌∷◌, length}
use Rattle.std.specs.Prelude.{is_some}
use Rattle.aw_schema.proofs.callers.AcceptedCatalogues.{accepted_few}
use Rattle.mv_view.specs.ViewState.{object_of}
use Rattle.ses_step.proofs.SeenObjects.{IsSplit, as_many, one_more, none_there}
use Rattle.ses_step.proofs.sharing.seen_objects.Goals as goal
use Rattle.ses_step.proofs.sharing.seen_objects.Goals.{then-is_seen+in_ok-push, else-is_seen}

pub overflow_cast-object-end : goal.overflow_cast-object-end
overflow_cast-object-end c = omega (arith, accepted_few c.args.catalogue.now c.len-object-end.ensures.accepted, c.len-object-end.ensures.value)

pub loop-object-preserved : goal.loop-object-preserved
loop-object-preserved c =
    let view = c.args.view.now in
    let at = c.loop-object.object in
    let found = c.loop-object.objects in
    let within : at < length view.objects = omega (arith, c.loop-object-test.true, c.len-object-end.ensures.value, as_many view c.args.catalogue.now c.requires) in
    elim c.if-is_seen.branch [
      | then-is_seen+in_ok-push w ↦
          let there : is_some (object_of view at) ≡ true = search rules in
          let more : c.if-is_seen.objects ≡ found ++ at ∷ [] = search rules in
          subst (λ (those : List ℕ). IsSplit view those (at + 1)) (sym more) (one_more view found at c.loop-object.invariant within there)
      | else-is_seen w ↦
          let missing : is_some (object_of view at) ≡ false = search rules in
          let same : c.if-is_seen.objects ≡ found = search rules in
          subst (λ (those : List ℕ). IsSplit view those (at + 1)) (sym same) (none_there view found at c.loop-object.invariant within missing)
    ]
