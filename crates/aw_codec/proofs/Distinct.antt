-- Parts of which no two are alike, by testing each against those before it.
use Rattle.std.specs.Prelude.{ℕ, suc, ◌≡◌, ◌≢◌, ◌<◌, ◌≤◌, Bool, true, false, List, [], ◌∷◌, ◌++◌, length, map, nat_eq}
use Rattle.std.specs.Bool.{Decides}
use Rattle.std.specs.List.{All, AllPairs, AllByRecursion, IsDistinct, list_any}
use Rattle.std.proofs.Common.{sym, ap, subst, ◌∙◌, append_assoc, arith, inl, inr, get_or}
use Rattle.std.proofs.lemmas.Bool.{cases_lt, or_cases, false_from_ne_true, eqb-true, ne_eqb}
use Rattle.std.proofs.lemmas.List.{append-nil, length-append, length-map, get_or_append_left}
use Rattle.std.proofs.lemmas.List.Elements.{recursion_from_All}
use Rattle.std.proofs.lemmas.Map.Steps.{length-le_from_distinct_below}
use Rattle.std.proofs.lemmas.List.Folds.{list_any_none, list_any_at}
use Rattle.std.proofs.Math.Seq.{get_or-append_seam}
use Rattle.aw_codec.proofs.Many.{AreFitting}

module _ {X K : Type 0} (of : X → K) (same : K → K → Bool) (decides : (a b : K) → Decides (same a b) (a ≡ b)) where
  -- what a part has isn't what one of those before it has
  abbrev pub IsNew : List X → X → Type 0
  IsNew before x = list_any (λ other. same (of other) (of x)) before ≡ false

  abbrev pub Differ : X → X → Type 0
  Differ one other = of one ≢ of other

  none_same : (before : List X) (x : X) → IsNew before x → All (λ other. Differ other x) before
  none_same before x new k d lt e =
      let hit = list_any_at (λ other. same (of other) (of x)) before k d lt ((decides (of (get_or before k d)) (of x)).1 e) in
      cc

  all_new : (before : List X) (x : X) → All (λ other. Differ other x) before → IsNew before x
  all_new before x differ =
      list_any_none (λ other. same (of other) (of x)) before
      (λ k d lt. false_from_ne_true (same (of (get_or before k d)) (of x)) (λ e. differ k d lt ((decides (of (get_or before k d)) (of x)).0 e)))

  one_more : (before : List X) (x : X) → AllPairs Differ before → All (λ other. Differ other x) before → AllPairs Differ (before ++ x ∷ [])
  one_more before x pairs new i j d lt within =
      let size = length-append before (x ∷ []) in
      elim (cases_lt j (length before)) [
        | inl inside ↦
            let first : get_or (before ++ x ∷ []) i d ≡ get_or before i d = get_or_append_left before (x ∷ []) d i (omega arith) in
            let second : get_or (before ++ x ∷ []) j d ≡ get_or before j d = get_or_append_left before (x ∷ []) d j inside in
            subst (λ (a : X). Differ a (get_or (before ++ x ∷ []) j d)) (sym first) (subst (λ (b : X). Differ (get_or before i d) b) (sym second) (pairs i j d lt inside))
        | inr last ↦
            let here : j ≡ length before = omega arith in
            let first : get_or (before ++ x ∷ []) i d ≡ get_or before i d = get_or_append_left before (x ∷ []) d i (omega arith) in
            let second : get_or (before ++ x ∷ []) j d ≡ x = ap (λ (k : ℕ). get_or (before ++ x ∷ []) k d) here ∙ get_or-append_seam before x [] d in
            subst (λ (a : X). Differ a (get_or (before ++ x ∷ []) j d)) (sym first) (subst (λ (b : X). Differ (get_or before i d) b) (sym second) (new i d (omega arith)))
      ]

  pub pairs_differ : (before xs : List X) → AllPairs Differ before → AreFitting IsNew before xs → AllPairs Differ (before ++ xs)
  pairs_differ before [] pairs fit = subst (λ (all : List X). AllPairs Differ all) (sym (append-nil before)) pairs
  pairs_differ before (x ∷ xs) pairs (new, rest) =
      subst (λ (all : List X). AllPairs Differ all) (append_assoc before (x ∷ []) xs)
      (pairs_differ (before ++ x ∷ []) xs (one_more before x pairs (none_same before x new)) rest)

  front_differs : (before xs : List X) (x : X) → AllPairs Differ (before ++ x ∷ xs) → All (λ other. Differ other x) before
  front_differs before xs x pairs k d lt =
      let total = length-append before (x ∷ xs) in
      let first : get_or (before ++ x ∷ xs) k d ≡ get_or before k d = get_or_append_left before (x ∷ xs) d k lt in
      let second : get_or (before ++ x ∷ xs) (length before) d ≡ x = get_or-append_seam before x xs d in
      subst (λ (a : X). Differ a x) first (subst (λ (b : X). Differ (get_or (before ++ x ∷ xs) k d) b) second (pairs k (length before) d lt (omega arith)))

  pub are_new : (before xs : List X) → AllPairs Differ (before ++ xs) → AreFitting IsNew before xs
  are_new before [] pairs = tt
  are_new before (x ∷ xs) pairs = (
    all_new before x (front_differs before xs x pairs),
    are_new (before ++ x ∷ []) xs (subst (λ (all : List X). AllPairs Differ all) (sym (append_assoc before (x ∷ []) xs)) pairs),
  )

-- ---- how many they are

module _ {X : Type 0} (of : X → ℕ) where
  abbrev NumbersDiffer : X → X → Type 0
  NumbersDiffer one other = of one ≢ of other

  apart : (x : X) (xs : List X) → AllByRecursion (NumbersDiffer x) xs → AllByRecursion (λ y. nat_eq (of x) y ≡ false) (map of xs)
  apart x [] differ = tt
  apart x (y ∷ ys) (first, rest) = (ne_eqb (of x) (of y) first, apart x ys rest)

  distinct : (xs : List X) → AllPairs NumbersDiffer xs → IsDistinct nat_eq (map of xs)
  unfolding IsDistinct
  distinct [] pairs = tt
  distinct (x ∷ xs) pairs = (
    apart x xs (recursion_from_All (NumbersDiffer x) xs (λ k d lt. pairs 0 (suc k) d (omega arith) (omega arith))),
    distinct xs (λ i j d lt within. pairs (suc i) (suc j) d (omega arith) (omega arith)),
  )

  below : (xs : List X) (n : ℕ) → AllByRecursion (λ x. of x < n) xs → (q : ℕ) → list_any (nat_eq q) (map of xs) ≡ true → q < n
  below [] n each q hit = absurd cc
  below (x ∷ xs) n (first, rest) q hit =
      elim (or_cases (nat_eq q (of x)) (list_any (nat_eq q) (map of xs)) hit) [
        | inl here ↦ omega (arith, eqb-true q (of x) here)
        | inr behind ↦ below xs n rest q behind
      ]

  -- numbers below n with no two equal are at most n
  pub few : (xs : List X) (n : ℕ) → AllPairs NumbersDiffer xs → AllByRecursion (λ x. of x < n) xs → length xs ≤ n
  few xs n pairs each = rw length-map at (length-le_from_distinct_below (map of xs) n (distinct xs pairs) (below xs n each))
