use Rattle.ses_step.proofs.SeenObjects.{IsSplit}
use Rattle.ses_step.proofs.sharing.seen_objects.Given as goal

abbrev pub invariant-loop-object : goal.invariant-loop-object
invariant-loop-object l = IsSplit l.view l.objects l.object
