use Rattle.std.proofs.Common.{◌∙◌, List, sym, ap, subst}
use Rattle.std.specs.Prelude.{All}
use Rattle.aw_body.specs.declared.change.Fresh.{Fresh}
use Rattle.mv_core.specs.Effects.{each, renewed}
use Rattle.mv_core.specs.Prepared.{IsOfForm}
use Rattle.mv_core.proofs.Making.{follow-makable, renewed-committed, forms-made}
use Rattle.mv_core.proofs.changing.to_follow.Goals as goal

pub made-requires : goal.made-requires
made-requires c =
    follow-makable c.args.definitions.now c.args.objects.now c.args.changes.now c.requires (sym c.may_follow.ensures ∙ c.if-not-may_follow.false)

pub returns-clause-made : goal.returns-clause-made
returns-clause-made c =
    ap (λ (made : List Fresh). each (renewed made) c.args.objects.now) c.in_ok-made.ensures ∙ renewed-committed c.args.objects.now c.args.changes.now

pub returns-clause-forms : goal.returns-clause-forms
returns-clause-forms c =
    subst (All (IsOfForm c.args.definitions.now)) (sym c.in_ok-made.ensures) (forms-made c.args.definitions.now c.args.objects.now c.args.changes.now c.requires)
