-- What an assignment writes, and which fixed value refuses it.
use Rattle.std.proofs.Common.{◌≡◌, ◌≢◌, ◌∙◌, ℕ, zero, suc, ◌≤◌, Bool as Truth, true, false, cond, List, [], ◌∷◌, length, map, Option, Some, None, Result, Ok, Err, refl, sym, ap, subst, arith}
use Rattle.std.specs.Prelude.{All, AllPairs, IsTrue, nat_le}
use Rattle.std.specs.List.{list_all}
use Rattle.std.proofs.lemmas.Bool.Decides.{nat_tests}
use Rattle.std.proofs.lemmas.List.Elements.{All-nil, All-map}
use Rattle.aw_cell.specs.declared.number.Arith.TheVariants.{Overflow}
use Rattle.aw_dim.specs.DimensionState.{Entry, DimensionState, IsDimension}
use Rattle.aw_status.specs.Rules.{all_slots}
use Rattle.aw_var.specs.CellMap.{Cells}
use Rattle.mv_view.specs.ViewState.{ViewState, AreSeen, object_of}
use Rattle.mv_view.specs.Rules.{values_in}
use Rattle.dml_exec.specs.declared.kinds.Fix.{Fix}
use Rattle.dml_compile.specs.Compiled.{tree_fixes}
use Rattle.dml_loop.specs.declared.fault.LoopFault.{LoopFault}
use Rattle.dml_loop.specs.declared.fault.LoopFault.TheVariants.{Arith as Refused, TooMany}
use Rattle.dml_loop.specs.Evaluation.{stored, assigned, shown}
use Rattle.dml_loop.specs.Fixes.{slots_of_fixes}
use Rattle.dml_loop.specs.Laws.{AreApart, EachPlaceIsAssigned}
use Rattle.dml_loop.specs.Loops.{places, combinations, on_ok}
use Rattle.ses_value.specs.declared.target.AssignedTo.{AssignedTo}
use Rattle.ses_value.specs.Evaluating.{target_kind, value_in, looked_up, lists_in, slots_for, list_for, target_lists, within, held}
use Rattle.ses_value.specs.Held.{is_held}
use Rattle.ses_value.specs.Laws.{AssignmentsWriteTheirLoop, FixedValuesComeFirst}
use Rattle.ses_value.specs.Seeing.{slot_in}
use Rattle.ses_value.proofs.Evaluated.{assigned_then, then_fixes}
use Rattle.ses_value.proofs.SlotNames.{of_object}

-- ---- lists have each slot once

apart-entries : (entries : List Entry) → AllPairs (λ (one other : Entry). one.0 ≢ other.0) entries → AreApart (map (λ (entry : Entry). entry.0) entries)
apart-entries [] apart = tt
apart-entries (entry ∷ entries) apart = (
  All-map (λ (slot : ℕ). entry.0 ≢ slot) (λ (other : Entry). other.0) entries (λ k d less. apart zero (suc k) d (omega arith) (omega (arith, less))),
  apart-entries entries (λ i j d less long. apart (suc i) (suc j) d (omega (arith, less)) (omega (arith, long))),
)

apart-status : (found : Option DimensionState) → ((values : DimensionState) → found ≡ Some values → IsDimension values) → AreApart (elim found as (λ _. List ℕ) [ Some values ↦ all_slots values | None ↦ [] ])
apart-status None valid = tt
apart-status (Some values) valid = apart-entries values.entries (valid values refl).slots_differ

apart-slots : (view : ViewState) → AreSeen view.objects → (fix : Option Fix) (dimension : ℕ) → AreApart (slots_for view fix dimension)
apart-slots view seen (Some fix) dimension = (All-nil (λ (slot : ℕ). _ ≢ slot), tt)
apart-slots view seen None dimension = apart-status (values_in view dimension) (λ values at. of_object (object_of view dimension) values (seen.each dimension) at)

apart-lists : (view : ViewState) → AreSeen view.objects → (to : AssignedTo) → All (λ (list : ℕ × List ℕ). AreApart list.1) (target_lists view to)
apart-lists view seen to = All-map (λ (list : ℕ × List ℕ). AreApart list.1) (list_for view to.fixes) to.dimensions (λ k d less. apart-slots view seen _ _)

-- ---- an assignment that isn't refused

ok-same : {A : Type 0} (a b : A) → ◌≡◌ {A = Result A LoopFault} (Ok a) (Ok b) → a ≡ b
ok-same a b e = cc

err-ok : {A : Type 0} (why : LoopFault) (a : A) → ◌≡◌ {A = Result A LoopFault} (Err why) (Ok a) → ⊥
err-ok why a e = cc

behind-fixes : {A B : Type 0} (answer : Result B LoopFault) (looked : Result A LoopFault) (b : B) → on_ok (λ (a : A). answer) looked ≡ Ok b → answer ≡ Ok b
behind-fixes answer (Ok a) b is = is
behind-fixes answer (Err why) b is = absurd (err-ok why b is)

record Holds (view : ViewState) (to : AssignedTo) (some : Result Cells LoopFault) (cells : Cells) : Type 0 where
  pub few : nat_le (combinations (target_lists view to)) 4194304 ≡ true
  pub are : some ≡ Ok cells
  pub held : IsTrue (list_all (is_held (length to.dimensions) (target_kind to.target)) cells)

of-held : (view : ViewState) (to : AssignedTo) (some cells : Cells) (all few : Truth) → list_all (is_held (length to.dimensions) (target_kind to.target)) some ≡ all → nat_le (combinations (target_lists view to)) 4194304 ≡ true → cond all (Ok some) (Err (Refused Overflow)) ≡ Ok cells → Holds view to (Ok some) cells
of-held view to some cells true few is short e =
    let same : some ≡ cells = ok-same some cells e in
    record { few = short; are = e; held = subst (λ (those : Cells). IsTrue (list_all (is_held (length to.dimensions) (target_kind to.target)) those)) same is }
of-held view to some cells false few is short e = absurd (err-ok (Refused Overflow) cells e)

of-within : (view : ViewState) (to : AssignedTo) (some : Result Cells LoopFault) (cells : Cells) (few : Truth) → nat_le (combinations (target_lists view to)) 4194304 ≡ few → cond few (on_ok (held view to) some) (Err TooMany) ≡ Ok cells → Holds view to some cells
of-within view to (Ok some) cells true short is = of-held view to some cells (list_all (is_held (length to.dimensions) (target_kind to.target)) some) true refl short is
of-within view to (Err why) cells true short is = absurd (err-ok why cells is)
of-within view to some cells false short is = absurd (err-ok TooMany cells is)

few-cells : (n : ℕ) → nat_le n 4194304 ≡ true → n ≤ 4194304
few-cells n few = grind (arith, nat_tests)

pub loop-written : EachPlaceIsAssigned → AssignmentsWriteTheirLoop
loop-written law view to expression cells seen is =
    let stored_cells : Result Cells LoopFault = assigned (value_in view expression.tree) (stored (slot_in view) to.target) (places (target_lists view to)) in
    let inside : Result Cells LoopFault = within view (target_lists view to) (on_ok (held view to) stored_cells) in
    let behind : inside ≡ Ok cells = behind-fixes inside (slots_of_fixes (slot_in view) (tree_fixes [] expression.tree)) cells (behind-fixes (looked_up view (tree_fixes [] expression.tree) inside) (slots_of_fixes (slot_in view) to.fixes) cells is) in
    let all = of-within view to stored_cells cells (nat_le (combinations (target_lists view to)) 4194304) refl behind in
    let loop = law (value_in view expression.tree) (stored (slot_in view) to.target) (target_lists view to) cells all.are in
    record {
      at_places = loop.at_places;
      count = loop.count;
      most = subst (λ (n : ℕ). n ≤ 4194304) (sym loop.count) (few-cells (combinations (target_lists view to)) all.few);
      once = loop.once (apart-lists view seen to);
      held = all.held;
    }

-- ---- fixed values

pub fixes-first : FixedValuesComeFirst
fixes-first = record {
  target = λ view to expression why is. ap (λ (r : Result (List ℕ) LoopFault). on_ok (then_fixes view to expression) r) is;
  assigned = λ view to expression slots why known is.
      ap (λ (r : Result (List ℕ) LoopFault). on_ok (then_fixes view to expression) r) known
      ∙ ap (λ (r : Result (List ℕ) LoopFault). on_ok (λ (some : List ℕ). assigned_then view to expression) r) is;
  shown = λ view expression why is. ap (λ (r : Result (List ℕ) LoopFault). on_ok (λ (some : List ℕ). shown (value_in view expression.tree) (lists_in view expression.dimensions)) r) is;
}
