-- A view after cells were written, or refused.
use Rattle.std.specs.Prelude.{ℕ, ◌≡◌, ◌==◌, List, Option, Some, None, IfSome, Result, Ok, Err, OnOk, OnErr}
use Rattle.std.specs.Option.{option_map, IsSomeAnd}
use Rattle.std.proofs.Common.{◌∙◌, ap, sym, refl, subst, arith}
use Rattle.aw_var.specs.CellMap.{Cells}
use Rattle.aw_body.specs.declared.patch.BodyPatch.TheVariants.{Cells as CellPatch}
use Rattle.aw_body.specs.Bodies.{IsBody}
use Rattle.aw_body.specs.BodyPatches.{applied}
use Rattle.mv_view.specs.Each.{object_in, each_from, only}
use Rattle.mv_view.specs.ViewState.{ObjectView, ViewState, object_of, AreSeen}
use Rattle.mv_view.specs.Rules as rule
use Rattle.mv_view.specs.declared.fault.ViewFault.{ViewFault}
use Rattle.mv_view.specs.inside.Places.{IsListed}
use Rattle.mv_view.proofs.callers.Each.{object_in-each, only-itself}
use Rattle.mv_view.proofs.ChangedPlaces.{IsListed-same, owned-cond, seen-written}

-- the owned objects stay listed, whatever the answer
pub IsListed-written : (result : Result (Unit {0}) ViewFault) (objects after : List (Option ObjectView)) (those : List ℕ) (room object : ℕ) (cells : Cells)
    → OnOk result (after ≡ each_from 0 (only object (rule.with_cells cells)) objects) → OnErr result (after ≡ objects)
    → OnOk result (IfSome (object_in objects object) (λ found. IsBody (applied found.private (CellPatch cells))))
    → IsListed objects those room → IsListed after those room
IsListed-written (Ok done) objects after those room object cells ok err valid is =
    IsListed-same objects after those room (only object (rule.with_cells cells)) ok (λ at found. owned-cond (object == at) (rule.with_cells cells found) found refl)
    (subst AreSeen (sym ok) (seen-written objects object cells is.seen valid)) is
IsListed-written (Err fault) objects after those room object cells ok err valid is = subst (λ (list : List (Option ObjectView)). IsListed list those room) (sym err) is

-- how many pages the private body is on after a write
pub pages-written : (view : ViewState) (object : ℕ) (cells : Cells) (P : ℕ → Type 0) (Q : ObjectView → Type 0) → IsSomeAnd (object_of view object) Q → IfSome (object_of view object) (λ found. P (rule.pages_of (applied found.private (CellPatch cells)))) → P (rule.private_pages (rule.written view object cells) object)
pages-written view object cells P Q there holds = step (object_of view object) refl there holds
  where
    step : (found : Option ObjectView) → object_of view object ≡ found → IsSomeAnd found Q → IfSome found (λ one. P (rule.pages_of (applied one.private (CellPatch cells)))) → P (rule.private_pages (rule.written view object cells) object)
    step None is there holds = absurd there
    step (Some one) is there holds =
        subst (λ (found : Option ObjectView). P (elim found [ None ↦ 0 | Some seen ↦ rule.pages_of seen.private ]))
        (sym (object_in-each 0 (only object (rule.with_cells cells)) view.objects object object (omega arith) ∙ ap (option_map (only object (rule.with_cells cells) object)) is ∙ ap (λ (o : ObjectView). Some o) (only-itself object object (rule.with_cells cells) one refl)))
        holds

pub ok-map : (P Q : Type 0) (result : Result (Unit {0}) ViewFault) → (P → Q) → OnOk result P → OnOk result Q
ok-map P Q (Ok done) f holds = f holds
ok-map P Q (Err fault) f holds = tt

pub ok-both : (P R Q : Type 0) (result : Result (Unit {0}) ViewFault) → (P → R → Q) → OnOk result P → OnOk result R → OnOk result Q
ok-both P R Q (Ok done) f one other = f one other
ok-both P R Q (Err fault) f one other = tt

pub err-map : (P Q : Type 0) (result : Result (Unit {0}) ViewFault) → (P → Q) → OnErr result P → OnErr result Q
err-map P Q (Ok done) f holds = tt
err-map P Q (Err fault) f holds = f holds
