-- A key above another, slot by slot.
use Rattle.std.specs.Prelude.{ℕ, suc, ◌≡◌, ◌+◌, ◌<◌, ◌≤◌, ◌==◌, Bool, true, false, List, [], ◌∷◌, ◌++◌, length, take, Option, Some, slice_index, if◌then◌else◌}
use Rattle.std.specs.Ordering.{nat_cmp}
use Rattle.std.specs.Cmp.Lexicographic.{slice_cmp}
use Rattle.std.specs.Str.{bytes_eq}
use Rattle.std.specs.declared.cmp.Ordering.TheVariants.{Less, Greater}
use Rattle.std.proofs.Common.{refl, sym, ap, subst, ◌∙◌, append_assoc, arith, inl, inr}
use Rattle.std.proofs.lemmas.Bool.{cases_lt, cases_Bool, lt-ltb, le-ltb, eqb-false, ne_eqb, eq-eqb}
use Rattle.std.proofs.lemmas.List.{length-append, take_at, take-take, append_cancel_left}
use Rattle.std.proofs.lemmas.Slice.Eq.{bytes_eq-Decides}
use Rattle.std.proofs.Math.Seq.{get_or-append_seam}
use Rattle.aw_codec.specs.RecordFormat.{least_slot}
use Rattle.aw_codec.proofs.Many.{AreFitting}

-- a slot that may stand there
abbrev pub MayFollow : ℕ → Option (List ℕ) → List ℕ → ℕ → Type 0
MayFollow size previous slots slot = least_slot size previous slots ≤ slot

-- the slots are those of the key before
tied : (slots rest : List ℕ) → bytes_eq slots (take (length slots) (slots ++ rest)) ≡ true
tied slots rest = (bytes_eq-Decides slots (take (length slots) (slots ++ rest))).1 (sym (take_at slots rest (length slots) refl))

next_slot : (slots rest : List ℕ) (y : ℕ) → slice_index (slots ++ y ∷ rest) (length slots) ≡ y
next_slot slots rest y = get_or-append_seam slots y rest 0

abbrev one_if : Bool → ℕ
one_if b = if b then 1 else 0

least_tied : (size : ℕ) (slots rest : List ℕ) (y : ℕ) → least_slot size (Some (slots ++ y ∷ rest)) slots ≡ y + one_if (length slots + 1 == size)
least_tied size slots rest y = rw (tied slots (y ∷ rest), next_slot slots rest y) refl

at_least : (b : Bool) (y x : ℕ) → y + one_if b ≤ x → y ≤ x
at_least true y x le = omega arith
at_least false y x le = omega arith

more_than : (b : Bool) (y x : ℕ) → b ≡ true → y + one_if b ≤ x → y < x
more_than true y x is le = omega arith
more_than false y x is le = absurd cc

within : (b : Bool) (y x : ℕ) → y < x → y + one_if b ≤ x
within true y x lt = omega arith
within false y x lt = omega arith

equal : (b : Bool) (y x : ℕ) → b ≡ false → y ≡ x → y + one_if b ≤ x
equal true y x is same = absurd cc
equal false y x is same = omega arith

-- ---- slots that may follow make a key above

cmp_less : (y x : ℕ) (q xs : List ℕ) → y < x → slice_cmp nat_cmp (y ∷ q) (x ∷ xs) ≡ Less
cmp_less y x q xs lt = rw (lt-ltb y x lt) refl

cmp_equal : (y x : ℕ) (q xs : List ℕ) → y ≡ x → slice_cmp nat_cmp (y ∷ q) (x ∷ xs) ≡ slice_cmp nat_cmp q xs
cmp_equal y x q xs same = rw (le-ltb y x (omega arith), eq-eqb y x same) refl

cmp_greater : (y x : ℕ) (q xs : List ℕ) → x < y → slice_cmp nat_cmp (y ∷ q) (x ∷ xs) ≡ Greater
cmp_greater y x q xs gt = rw (le-ltb y x (omega arith), ne_eqb y x (λ e. omega arith)) refl

moved : (slots q : List ℕ) (y x : ℕ) → y ≡ x → slots ++ y ∷ q ≡ (slots ++ x ∷ []) ++ q
moved slots q y x same = ap (λ (s : ℕ). slots ++ s ∷ q) same ∙ sym (append_assoc slots (x ∷ []) q)

longer : (slots : List ℕ) (x : ℕ) → length (slots ++ x ∷ []) ≡ length slots + 1
longer slots x = length-append slots (x ∷ [])

pub above : (q slots xs : List ℕ) (size : ℕ) → size ≡ length slots + length q → length xs ≡ length q → 1 ≤ length xs
    → AreFitting (MayFollow size (Some (slots ++ q))) slots xs → slice_cmp nat_cmp q xs ≡ Less
above q slots [] size total same some fit = absurd (omega arith)
above [] slots (x ∷ xs) size total same some fit = absurd (omega arith)
above (y ∷ q) slots (x ∷ xs) size total same some (first, rest) =
    let last = length slots + 1 == size in
    let bound : y + one_if last ≤ x = subst (λ (n : ℕ). n ≤ x) (least_tied size slots q y) first in
    elim (cases_lt y x) [
      | inl lt ↦ cmp_less y x q xs lt
      | inr le ↦
          let is : y ≡ x = omega (arith, at_least last y x bound) in
          elim (cases_Bool last) [
            | inl ends ↦ absurd (omega (arith, more_than last y x ends bound))
            | inr goes_on ↦
                let more : 1 ≤ length xs = later (length slots) size (length q) (length xs) (omega arith) (omega arith) goes_on in
                let rest-2 = subst (λ (p : List ℕ). AreFitting (MayFollow size (Some p)) (slots ++ x ∷ []) xs) (moved slots q y x is) rest in
                cmp_equal y x q xs is ∙ above q (slots ++ x ∷ []) xs size (omega (arith, longer slots x)) (omega arith) more rest-2
          ]
    ]
  where
    later : (n size m k : ℕ) → size ≡ n + suc m → k ≡ m → (n + 1 == size) ≡ false → 1 ≤ k
    later n size m k total same goes_on =
        elim (cases_lt 0 m) [
          | inl some ↦ omega arith
          | inr none ↦ absurd (eqb-false (n + 1) size goes_on (omega arith))
        ]

-- ---- a key above has slots that may follow

untied : (slots p : List ℕ) (x : ℕ) → bytes_eq slots (take (length slots) p) ≡ false → bytes_eq (slots ++ x ∷ []) (take (length (slots ++ x ∷ [])) p) ≡ false
untied slots p x apart =
    elim (cases_Bool (bytes_eq (slots ++ x ∷ []) (take (length (slots ++ x ∷ [])) p))) [
      | inl same ↦
          let whole = (bytes_eq-Decides (slots ++ x ∷ []) (take (length (slots ++ x ∷ [])) p)).0 same in
          let front : slots ≡ take (length slots) p =
          sym (take_at slots (x ∷ []) (length slots) refl) ∙ ap (take (length slots)) whole
          ∙ take-take (length slots) (length (slots ++ x ∷ [])) p (omega (arith, longer slots x)) in
          let so = (bytes_eq-Decides slots (take (length slots) p)).1 front in
          absurd cc
      | inr other ↦ other
    ]

free : (size : ℕ) (p slots xs : List ℕ) → bytes_eq slots (take (length slots) p) ≡ false → AreFitting (MayFollow size (Some p)) slots xs
free size p slots [] apart = tt
free size p slots (x ∷ xs) apart = (rw apart (omega arith), free size p (slots ++ x ∷ []) xs (untied slots p x apart))

parted : (slots q : List ℕ) (y x : ℕ) → y < x → bytes_eq (slots ++ x ∷ []) (take (length (slots ++ x ∷ [])) (slots ++ y ∷ q)) ≡ false
parted slots q y x lt =
    elim (cases_Bool (bytes_eq (slots ++ x ∷ []) (take (length (slots ++ x ∷ [])) (slots ++ y ∷ q)))) [
      | inl same ↦
          let whole = (bytes_eq-Decides (slots ++ x ∷ []) (take (length (slots ++ x ∷ [])) (slots ++ y ∷ q))).0 same in
          let front : take (length (slots ++ x ∷ [])) (slots ++ y ∷ q) ≡ slots ++ y ∷ [] =
          ap (take (length (slots ++ x ∷ []))) (sym (append_assoc slots (y ∷ []) q))
          ∙ take_at (slots ++ y ∷ []) q (length (slots ++ x ∷ [])) (omega (arith, longer slots x, longer slots y)) in
          let heads : x ∷ [] ≡ y ∷ [] = append_cancel_left slots (x ∷ []) (y ∷ []) (whole ∙ front) in
          let is : x ≡ y = cc in
          absurd (omega arith)
      | inr other ↦ other
    ]

pub may_follow : (q slots xs : List ℕ) (size : ℕ) → size ≡ length slots + length q → length xs ≡ length q
    → slice_cmp nat_cmp q xs ≡ Less → AreFitting (MayFollow size (Some (slots ++ q))) slots xs
may_follow q slots [] size total same less = tt
may_follow [] slots (x ∷ xs) size total same less = absurd (omega arith)
may_follow (y ∷ q) slots (x ∷ xs) size total same less =
    let last = length slots + 1 == size in
    elim (cases_lt y x) [
      | inl lt ↦
          (rw (least_tied size slots q y) (within last y x lt), free size (slots ++ y ∷ q) (slots ++ x ∷ []) xs (parted slots q y x lt))
      | inr le ↦
          elim (cases_lt x y) [
            | inl gt ↦ let greater = cmp_greater y x q xs gt in absurd cc
            | inr ge ↦
                let is : y ≡ x = omega arith in
                let rest : slice_cmp nat_cmp q xs ≡ Less = sym (cmp_equal y x q xs is) ∙ less in
                let goes_on : last ≡ false = not_last (length slots) size q xs total (omega arith) rest in
                let rest-2 = may_follow q (slots ++ x ∷ []) xs size (omega (arith, longer slots x)) (omega arith) rest in (
                  rw (least_tied size slots q y) (equal last y x goes_on is),
                  subst (λ (p : List ℕ). AreFitting (MayFollow size (Some p)) (slots ++ x ∷ []) xs) (sym (moved slots q y x is)) rest-2,
                )
          ]
    ]
  where
    not_last : (n size : ℕ) (q xs : List ℕ) → size ≡ n + suc (length q) → length xs ≡ length q → slice_cmp nat_cmp q xs ≡ Less → (n + 1 == size) ≡ false
    not_last n size [] [] total same less = absurd cc
    not_last n size [] (x ∷ xs) total same less = absurd (omega arith)
    not_last n size (y ∷ q) xs total same less = ne_eqb (n + 1) size (λ e. omega arith)
