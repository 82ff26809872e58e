use Rattle.std.proofs.Common.{◌∙◌, refl, sym}
use Rattle.ses_step.proofs.Evaluating.{show_evaluated, assign_evaluated, maintain_evaluated, none_evaluated}
use Rattle.ses_step.proofs.session.Known.evaluated.Goals as goal
use Rattle.ses_step.proofs.session.Known.evaluated.Goals.{in-Show+in_ok-show-in-Show, in-Assign+in_ok-assign-in-Assign, in-Add+in_ok-maintains-in-Add, in-Delete+in_ok-maintains-in-Delete, in-Move+in_ok-maintains-in-Move, in-Rename+in_ok-maintains-in-Rename, in_default}

pub returns : goal.returns
returns c = elim c.match-statement.branch [
  | in-Show+in_ok-show-in-Show w ↦ w.result-is ∙ show_evaluated c.args.catalogue.now c.args.self.now c.args.statement.now c.args.typed.now _ _ _ w.in-Show.is c.as_slice-expressions.ensures w.in_ok-show-in-Show.ensures
  | in-Assign+in_ok-assign-in-Assign w ↦ w.result-is ∙ assign_evaluated c.args.catalogue.now c.args.self.now c.args.statement.now c.args.typed.now _ _ _ _ w.in-Assign.is c.as_slice-expressions.ensures w.in_ok-assign-in-Assign.ensures
  | in-Add+in_ok-maintains-in-Add w ↦ w.result-is ∙ maintain_evaluated c.args.catalogue.now c.args.self.now c.args.statement.now c.args.typed.now _ _ _ w.in-Add.is refl c.as_slice-objects.ensures w.in_ok-maintains-in-Add.ensures
  | in-Delete+in_ok-maintains-in-Delete w ↦ w.result-is ∙ maintain_evaluated c.args.catalogue.now c.args.self.now c.args.statement.now c.args.typed.now _ _ _ w.in-Delete.is refl c.as_slice-objects.ensures w.in_ok-maintains-in-Delete.ensures
  | in-Move+in_ok-maintains-in-Move w ↦ w.result-is ∙ maintain_evaluated c.args.catalogue.now c.args.self.now c.args.statement.now c.args.typed.now _ _ _ w.in-Move.is refl c.as_slice-objects.ensures w.in_ok-maintains-in-Move.ensures
  | in-Rename+in_ok-maintains-in-Rename w ↦ w.result-is ∙ maintain_evaluated c.args.catalogue.now c.args.self.now c.args.statement.now c.args.typed.now _ _ _ w.in-Rename.is refl c.as_slice-objects.ensures w.in_ok-maintains-in-Rename.ensures
  | in_default w ↦ w.result-is ∙ sym (none_evaluated c.args.catalogue.now c.args.self.now c.args.typed.now c.args.statement.now w.in_default.not-Add w.in_default.not-Delete w.in_default.not-Move w.in_default.not-Rename w.in_default.not-Assign w.in_default.not-Show)
]
