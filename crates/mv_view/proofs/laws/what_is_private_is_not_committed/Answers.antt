use Rattle.std.proofs.Common.{refl}
use Rattle.mv_view.specs.Rules as rule
use Rattle.mv_view.proofs.callers.Changes.{changes-only, changes-listed}
use Rattle.mv_view.proofs.laws.what_is_private_is_not_committed.Goals as goal

pub returns : goal.returns
returns c = λ view. record { written = λ object cells. changes-only view object (rule.with_cells cells) (λ at found. refl); selected = λ object slots. changes-only view object (rule.with_slots slots) (λ at found. refl); reverted = λ objects. changes-listed view objects rule.reverting (λ at found. refl) }
