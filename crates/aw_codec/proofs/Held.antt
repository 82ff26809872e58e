-- Names and slots that were read.
use Rattle.std.specs.Prelude.{ℕ, zero, suc, replicate, ◌≡◌, ◌<◌, ◌++◌, ◌∷◌, [], ◌||◌, Bool, true, false, not, cond, List, length, nat_eq, slice_set}
use Rattle.std.specs.Global.{Vec}
use Rattle.std.specs.List.{list_any}
use Rattle.std.specs.Str.{bytes_eq}
use Rattle.std.proofs.Common.{refl, sym, ap, ap₂, ◌∙◌, arith, inl, inr, get_or}
use Rattle.std.proofs.Math.Bool.{or-false}
use Rattle.std.proofs.lemmas.Bool.{cases_eq, eq-eqb, ne_eqb}
use Rattle.std.proofs.lemmas.List.{get_or-set_same, get_or-set_other, length-set}
use Rattle.std.proofs.lemmas.List.Folds.{list_any-append}
use Rattle.aw_dim.specs.DimensionState.{Entry}
use Rattle.aw_codec.specs.inside.Seen.{AreMarked, AreHeld, same_bytes, has_slot, is_slot}

either : (same had : Bool) → cond same true had ≡ (had || same)
either true true = refl
either true false = refl
either false true = refl
either false false = refl

pub held_more : (entries : List Entry) (slot : ℕ) (name : List ℕ) (key : Vec ℕ) → key.items ≡ name → (has now : Vec ℕ → Bool) → AreHeld entries has
    → ((other : Vec ℕ) → now other ≡ cond (same_bytes key other) true (has other)) → AreHeld (entries ++ (slot, name) ∷ []) now
held_more entries slot name key is has now are inserted = record {
  held = λ other.
      inserted other ∙ either (same_bytes key other) (has other)
      ∙ ap₂ (λ (a b : Bool). a || b) (are.held other) (ap (λ (bytes : List ℕ). bytes_eq bytes other.items) is ∙ sym (or-false (bytes_eq name other.items)))
      ∙ sym (list_any-append (λ (entry : Entry). bytes_eq entry.1 other.items) entries ((slot, name) ∷ []));
}

pub name_new : (entries : List Entry) (name : List ℕ) (key : Vec ℕ) → key.items ≡ name → (has : Vec ℕ → Bool) → AreHeld entries has → (added : Bool) → added ≡ not (has key)
    → added ≡ not (list_any (λ (entry : Entry). bytes_eq entry.1 name) entries)
name_new entries name key is has are added tells =
    tells ∙ ap not (are.held key ∙ ap (λ (bytes : List ℕ). list_any (λ (entry : Entry). bytes_eq entry.1 bytes) entries) is)

-- ---- marks

marked_so : (was now : ℕ → Bool) (marks : List Bool) (slot : ℕ) → slot < length marks → ((k : ℕ) → now k ≡ (was k || nat_eq slot k)) → AreMarked was marks → AreMarked now (slice_set marks slot true)
marked_so was now marks slot within more are = record {
  marked = λ k lt.
      elim (cases_eq slot k) [
        | inl same ↦
            ap (λ (n : ℕ). get_or (slice_set marks slot true) n false) (sym same) ∙ get_or-set_same marks slot true false within
            ∙ sym (more k ∙ ap (λ (b : Bool). was k || b) (eq-eqb slot k same) ∙ or_true (was k))
        | inr other ↦
            get_or-set_other marks slot k true false (λ e. other (sym e)) ∙ are.marked k (omega (arith, length-set marks slot true))
            ∙ sym (more k ∙ ap (λ (b : Bool). was k || b) (ne_eqb slot k other) ∙ or-false (was k))
      ];
}
  where
    or_true : (b : Bool) → (b || true) ≡ true
    or_true true = refl
    or_true false = refl

pub slot_marked : (slots : List ℕ) (marks : List Bool) (slot : ℕ) → slot < length marks → AreMarked (is_slot slots) marks → AreMarked (is_slot (slots ++ slot ∷ [])) (slice_set marks slot true)
slot_marked slots marks slot within are =
    marked_so (is_slot slots) (is_slot (slots ++ slot ∷ [])) marks slot within
    (λ k. list_any-append (λ (other : ℕ). nat_eq other k) slots (slot ∷ []) ∙ ap (λ (b : Bool). is_slot slots k || b) (or-false (nat_eq slot k))) are

pub value_marked : (entries : List Entry) (marks : List Bool) (entry : Entry) → entry.0 < length marks → AreMarked (has_slot entries) marks → AreMarked (has_slot (entries ++ entry ∷ [])) (slice_set marks entry.0 true)
value_marked entries marks entry within are =
    marked_so (has_slot entries) (has_slot (entries ++ entry ∷ [])) marks entry.0 within
    (λ k. list_any-append (λ (other : Entry). nat_eq other.0 k) entries (entry ∷ []) ∙ ap (λ (b : Bool). has_slot entries k || b) (or-false (nat_eq entry.0 k))) are

-- before any was read
pub unmarked : (marks : List Bool) (count : ℕ) → marks ≡ replicate count false → AreMarked (λ _. false) marks
unmarked marks count is = record { marked = λ k lt. ap (λ (xs : List Bool). get_or xs k false) is ∙ none count k }
  where
    none : (n k : ℕ) → get_or (replicate n false) k false ≡ false
    none zero k = refl
    none (suc n) zero = refl
    none (suc n) (suc k) = none n k
