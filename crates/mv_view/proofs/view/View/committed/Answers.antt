use Rattle.std.specs.Prelude.{◌≡◌, vec_capacity, List, Option, ℕ}
use Rattle.std.proofs.Common.{◌∙◌, ap, subst}
use Rattle.mv_view.specs.Each.{each_from, listed}
use Rattle.mv_view.specs.ViewState.{ObjectView, ViewState}
use Rattle.mv_view.specs.Rules as rule
use Rattle.mv_view.proofs.Owning.{listed-committed, committed-owned}
use Rattle.mv_view.proofs.view.View.committed.Goals as goal

pub invariant_of-self : goal.invariant_of-self
invariant_of-self c = rw (c.forget.ensures.items, c.forget.ensures.room, c.step_all.ensures) (listed-committed c.self.inside.objects c.self.inside.owned.items c.as_slice.result.now (vec_capacity c.self.inside.owned) c.self.invariant)

pub returns : goal.returns
returns c =
    let objects = c.self.inside.objects in
    let after : c.step_all.new.objects ≡ each_from 0 (λ at found. rule.after_commit found) objects =
    c.step_all.ensures ∙ ap (λ (those : List ℕ). each_from 0 (listed those rule.after_commit) objects) c.as_slice.ensures.value ∙ committed-owned objects c.self.inside.owned.items c.self.invariant.owned in
    let with_objects : List (Option ObjectView) → ViewState = λ those. record { who = c.self.inside.who; objects = those } in
    subst (λ (view : ViewState). with_objects c.step_all.new.objects ≡ rule.committed view) c.self.view_is (ap with_objects after)
