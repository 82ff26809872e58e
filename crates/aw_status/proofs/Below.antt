-- Slots of a dimension lie below its next slot; what is among a list.
use Rattle.std.proofs.Common.{◌≡◌, ◌⊎◌, ◌∙◌, ℕ, zero, suc, ◌<◌, Bool, false, ◌||◌, cond, eqb, eq-eqb, List, [], ◌∷◌, ◌++◌, length, map, get_or, refl, sym, subst, inl, inr, ⊎_elim, arith}
use Rattle.std.specs.Bool.{IsTrue}
use Rattle.std.specs.List.{All}
use Rattle.std.proofs.lemmas.Bool.{false≢true, or_cases, or_left, or_right, eqb-true, cases_Bool}
use Rattle.std.proofs.lemmas.List.Folds.{list_any-append}
use Rattle.aw_dim.specs.DimensionState.{Entry, DimensionState, IsDimension}
use Rattle.aw_status.specs.Rules.{is_among, all_slots, joined, AreValues}
use Rattle.aw_status.specs.inside.Marks.{IsBelow}

-- ---- among

pub among-append : (xs ys : List ℕ) (slot : ℕ) → is_among (xs ++ ys) slot ≡ (is_among xs slot || is_among ys slot)
among-append xs ys slot = list_any-append (λ other. eqb other slot) xs ys

pub among-last : (xs : List ℕ) (slot : ℕ) → IsTrue (is_among (xs ++ slot ∷ []) slot)
among-last xs slot = among-append xs (slot ∷ []) slot ∙ or_right (is_among xs slot) (eqb slot slot || false) (or_left (eqb slot slot) false (eq-eqb slot slot refl))

pub among-at : (xs : List ℕ) (at d : ℕ) → at < length xs → IsTrue (is_among xs (get_or xs at d))
among-at [] at d h = absurd (omega arith)
among-at (x ∷ xs) zero d h = or_left (eqb x x) (is_among xs x) (eq-eqb x x refl)
among-at (x ∷ xs) (suc at) d h = or_right (eqb x (get_or xs at d)) (is_among xs (get_or xs at d)) (among-at xs at d (omega arith))

pub below_at : (room : ℕ) (xs : List ℕ) (at d : ℕ) → IsBelow room xs → at < length xs → get_or xs at d < room
below_at room xs at d below h = below (get_or xs at d) (among-at xs at d h)

-- ---- a dimension

slot-below : (entries : List Entry) (next : ℕ) → All (λ (entry : Entry). entry.0 < next) entries → (slot : ℕ) → IsTrue (is_among (map (λ (entry : Entry). entry.0) entries) slot) → slot < next
slot-below [] next all slot h = absurd (false≢true h)
slot-below (entry ∷ entries) next all slot h =
    ⊎_elim
    (λ here. subst (λ (n : ℕ). n < next) (eqb-true entry.0 slot here) (all 0 entry (omega arith)))
    (λ later. slot-below entries next (λ k d less. all (suc k) d (omega arith)) slot later)
    (or_cases (eqb entry.0 slot) (is_among (map (λ (entry : Entry). entry.0) entries) slot) h)

pub values_below : (values : DimensionState) (room : ℕ) → IsDimension values → room ≡ values.next → (slots : List ℕ) → AreValues values slots → IsBelow room slots
values_below values room dimension e slots are slot h = subst (λ (n : ℕ). slot < n) (sym e) (slot-below values.entries values.next dimension.slots_below slot (are slot h))

pub all-values : (values : DimensionState) → AreValues values (all_slots values)
all-values values slot h = h

pub none_values : (values : DimensionState) → AreValues values []
none_values values slot h = absurd (false≢true h)

-- ---- joined

pub joined-among : (status list : List ℕ) (slot : ℕ) → IsTrue (is_among (joined status list) slot) → IsTrue (is_among status slot) ⊎ IsTrue (is_among list slot)
joined-among status [] slot h = inl h
joined-among status (x ∷ list) slot h =
    ⊎_elim
    (λ first. ⊎_elim
    (λ was. inl (subst (λ (t : Bool). IsTrue (is_among (cond t status (status ++ x ∷ [])) slot)) was first))
    (λ new.
    let pushed : IsTrue (is_among (status ++ x ∷ []) slot) = subst (λ (t : Bool). IsTrue (is_among (cond t status (status ++ x ∷ [])) slot)) new first in
    ⊎_elim (λ was. inl was) (λ last. inr (or_left (eqb x slot) (is_among list slot) (⊎_elim (λ same. same) (λ never. absurd (false≢true never)) (or_cases (eqb x slot) false last))))
    (or_cases (is_among status slot) (eqb x slot || false) (sym (among-append status (x ∷ []) slot) ∙ pushed)))
    (cases_Bool (is_among status x)))
    (λ later. inr (or_right (eqb x slot) (is_among list slot) later))
    (joined-among (cond (is_among status x) status (status ++ x ∷ [])) list slot h)
