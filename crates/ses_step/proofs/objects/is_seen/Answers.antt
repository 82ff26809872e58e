use Rattle.std.proofs.Common.{◌≡◌, ◌∙◌, rules}
use Rattle.std.specs.Prelude.{slice_get, Some, None}
use Rattle.ses_step.proofs.Seeing.{seen-defined, seen-undefined}
use Rattle.ses_step.proofs.objects.is_seen.Goals as goal

pub returns-in-Some : goal.returns-in-Some
returns-in-Some c =
    let found : slice_get c.args.catalogue.now c.args.object ≡ Some c.in-Some.def.now = search rules in
    c.is_kept.ensures ∙ seen-defined c.args.view.now c.args.catalogue.now c.requires c.args.object c.in-Some.def.now found

pub returns-in-None : goal.returns-in-None
returns-in-None c =
    let missing : slice_get c.args.catalogue.now c.args.object ≡ None = search rules in
    seen-undefined c.args.view.now c.args.catalogue.now c.requires c.args.object missing
