use Rattle.aw_body.proofs.callers.PatchLaws.{composed-does-both}
use Rattle.aw_body.proofs.laws.composed_does_both.Goals as goal

pub returns : goal.returns
returns c = λ body first second is first_form second_form. composed-does-both c.composed_does_both.ensures body first second is first_form second_form
