use Rattle.std.proofs.Common.{◌∙◌, sym, subst}
use Rattle.mv_core.specs.Objects.{AreObjectsOf}
use Rattle.mv_core.proofs.FirstObjects.{standing-opened, first-forms}
use Rattle.mv_core.proofs.opening.first_objects.Goals as goal

pub returns-clause-value : goal.returns-clause-value
returns-clause-value c = c.in_ok-objects.ensures ∙ standing-opened c.args.definitions.now

pub returns-clause-forms : goal.returns-clause-forms
returns-clause-forms c =
    subst (AreObjectsOf c.args.definitions.now) (sym c.in_ok-objects.ensures) (first-forms c.args.definitions.now)
