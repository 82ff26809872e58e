-- Marks, and what is chosen by them.
use Rattle.std.proofs.Common.{◌≡◌, ◌∙◌, ℕ, zero, suc, ◌+◌, ◌<◌, Bool, true, false, not, ◌||◌, cond, eqb, eq-eqb, List, [], ◌∷◌, ◌++◌, length, replicate, get_or, take, refl, sym, ap, subst, ⊎_elim, arith, get_or-set_other, get_or-set_same}
use Rattle.std.specs.Bool.{IsTrue, beq}
use Rattle.std.specs.List.{filter, slice_set}
use Rattle.std.proofs.Math.ListN.{length-set}
use Rattle.std.proofs.lemmas.Bool.{or_left, or_right, cases_eq, ne_eqb}
use Rattle.std.proofs.lemmas.List.{take_more}
use Rattle.aw_status.specs.Rules.{is_among, joined, kept, removed}
use Rattle.aw_status.specs.inside.Marks.{AreMarks, IsBelow, is_marked}
use Rattle.aw_status.proofs.Below.{among-append, among-last, below_at}

-- ---- filters

pub filter-same : (p q : ℕ → Bool) (xs : List ℕ) → ((slot : ℕ) → IsTrue (is_among xs slot) → p slot ≡ q slot) → filter p xs ≡ filter q xs
filter-same p q [] h = refl
filter-same p q (x ∷ xs) h =
    let rest : filter p xs ≡ filter q xs = filter-same p q xs (λ slot is. h slot (or_right (eqb x slot) (is_among xs slot) is)) in
    let here : p x ≡ q x = h x (or_left (eqb x x) (is_among xs x) (eq-eqb x x refl)) in
    ap (λ (t : Bool). cond t (x ∷ filter p xs) (filter p xs)) here ∙ ap (λ (ys : List ℕ). cond (q x) (x ∷ ys) ys) rest

-- ---- marks

none-marked : (room slot : ℕ) → is_marked (replicate room false) slot ≡ false
none-marked zero slot = refl
none-marked (suc room) zero = refl
none-marked (suc room) (suc slot) = none-marked room slot

length-none : (room : ℕ) → length (replicate room false) ≡ room
length-none zero = refl
length-none (suc room) = ap suc (length-none room)

pub marks-none : (room : ℕ) (marks : List Bool) → marks ≡ replicate room false → AreMarks room [] marks
marks-none room marks e = record {
  len = ap length e ∙ length-none room;
  tell = λ slot less. ap (λ (m : List Bool). is_marked m slot) e ∙ none-marked room slot;
}

pub marks_more : (room : ℕ) (slots : List ℕ) (marks : List Bool) (slot : ℕ) → AreMarks room slots marks → slot < room → AreMarks room (slots ++ slot ∷ []) (slice_set marks slot true)
marks_more room slots marks slot m less = record {
  len = length-set marks slot true ∙ m.len;
  tell = λ other within. ⊎_elim
      (λ same.
      let fits : slot < length marks = omega (arith, m.len) in
      subst (λ (n : ℕ). is_marked (slice_set marks slot true) n ≡ is_among (slots ++ slot ∷ []) n) (sym same)
      (get_or-set_same marks slot true false fits ∙ sym (among-last slots slot)))
      (λ differ.
      get_or-set_other marks slot other true false differ ∙ m.tell other within
      ∙ sym (among-append slots (slot ∷ []) other ∙ ap (λ (t : Bool). is_among slots other || (t || false)) (ne_eqb slot other (λ e. differ (sym e))) ∙ or-false (is_among slots other)))
      (cases_eq other slot);
}
  where
    or-false : (b : Bool) → (b || (false || false)) ≡ b
    or-false true = refl
    or-false false = refl

-- a step over a list that is marked
pub marks_step : (room : ℕ) (slots : List ℕ) (marks : List Bool) (at : ℕ) → AreMarks room (take at slots) marks → IsBelow room slots → at < length slots → AreMarks room (take (at + 1) slots) (slice_set marks (get_or slots at 0) true)
marks_step room slots marks at m below within =
    subst (λ (xs : List ℕ). AreMarks room xs (slice_set marks (get_or slots at 0) true)) (sym (take_more slots at 0 within))
    (marks_more room (take at slots) marks (get_or slots at 0) m (below_at room slots at 0 below within))

-- ---- joined

pub one_there : (room : ℕ) (status : List ℕ) (marks : List Bool) (slot : ℕ) → AreMarks room status marks → slot < room → is_marked marks slot ≡ true → joined status (slot ∷ []) ≡ status
one_there room status marks slot m less is = ap (λ (t : Bool). cond t status (status ++ slot ∷ [])) (sym (m.tell slot less) ∙ is)

pub one_new : (room : ℕ) (status : List ℕ) (marks : List Bool) (slot : ℕ) → AreMarks room status marks → slot < room → is_marked marks slot ≡ false → joined status (slot ∷ []) ≡ status ++ slot ∷ []
one_new room status marks slot m less is = ap (λ (t : Bool). cond t status (status ++ slot ∷ [])) (sym (m.tell slot less) ∙ is)

-- ---- chosen

pub kept_chosen : (room : ℕ) (slots list : List ℕ) (marks : List Bool) → AreMarks room list marks → IsBelow room slots → filter (λ (slot : ℕ). beq (is_marked marks slot) true) slots ≡ kept slots list
kept_chosen room slots list marks m below =
    filter-same (λ (slot : ℕ). beq (is_marked marks slot) true) (λ (slot : ℕ). is_among list slot) slots
    (λ slot is. ap (λ (t : Bool). beq t true) (m.tell slot (below slot is)) ∙ beq-true (is_among list slot))
  where
    beq-true : (b : Bool) → beq b true ≡ b
    beq-true true = refl
    beq-true false = refl

pub removed_chosen : (room : ℕ) (slots list : List ℕ) (marks : List Bool) → AreMarks room list marks → IsBelow room slots → filter (λ (slot : ℕ). beq (is_marked marks slot) false) slots ≡ removed slots list
removed_chosen room slots list marks m below =
    filter-same (λ (slot : ℕ). beq (is_marked marks slot) false) (λ (slot : ℕ). not (is_among list slot)) slots
    (λ slot is. ap (λ (t : Bool). beq t false) (m.tell slot (below slot is)) ∙ beq-false (is_among list slot))
  where
    beq-false : (b : Bool) → beq b false ≡ not b
    beq-false true = refl
    beq-false false = refl
