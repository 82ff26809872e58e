-- The first entry of a sorted list that passes a test, told by its key.
use Rattle.std.proofs.Common.{◌≡◌, ℕ, cond, Bool, true, false, List, [], ◌∷◌, Option, Some, None, Ordering, Less, Equal, Greater, refl, sym, ap, ◌∙◌}
use Rattle.std.specs.Prelude.{⊤}
use Rattle.std.specs.List.{find, AllByRecursion}
use Rattle.std.specs.List.Sorted.{IsStrictlySortedBy}
use Rattle.std.specs.Option.{option_map}
use Rattle.std.specs.Map.{lookup, keys_of}
use Rattle.std.specs.BTreeMap.{is_at}
use Rattle.std.specs.FinMap.{is_sorted}
use Rattle.std.specs.FinMap.Entries.{below_all}
use Rattle.std.specs.Ordering.{is_eq, is_lt, ordering_reverse}
use Rattle.std.specs.Cmp.Lexicographic.{nat_list_cmp_total}
use Rattle.std.proofs.lemmas.Map.Keys.{sorted_head, sorted_tail}
use Rattle.std.proofs.lemmas.Map.Lookups.{exact_bytes}
use Rattle.aw_var.specs.CellMap.{by_slots}
use Rattle.aw_var.proofs.callers.FiniteMaps.{both_true}
use Rattle.agg_run.proofs.Climbing.{same_key}
use Rattle.agg_run.proofs.Sums.{key_itself}

-- whether what stands at a key passes
abbrev pub passes_at : {A : Type 0} → (List ℕ × A → Bool) → List ℕ → Option A → Bool
passes_at test key None = false
passes_at test key (Some value) = test (key, value)

-- the first key that passes, or that none does
abbrev pub IsFirst : (List ℕ → Bool) → Option (List ℕ) → Type 0
IsFirst passes None = (key : List ℕ) → passes key ≡ false
IsFirst passes (Some first) = (passes first ≡ true) × ((key : List ℕ) → by_slots key first ≡ Less → passes key ≡ false)

-- there is but one
pub same_first : (f g : List ℕ → Bool) (a b : Option (List ℕ)) → ((key : List ℕ) → f key ≡ g key) → IsFirst f a → IsFirst g b → a ≡ b
same_first f g None None same one other = refl
same_first f g None (Some b) same one other = let e = sym (one b) ∙ same b ∙ other.0 in cc
same_first f g (Some a) None same one other = let e = sym (other a) ∙ sym (same a) ∙ one.0 in cc
same_first f g (Some a) (Some b) same one other =
    elim (by_slots a b) as (λ r. by_slots a b ≡ r → Some a ≡ Some b) [
      | Less ↦ λ t. let e = sym (other.1 a t) ∙ sym (same a) ∙ one.0 in cc
      | Equal ↦ λ t. ap Some (exact_bytes a b t)
      | Greater ↦ λ t.
          let less : by_slots b a ≡ Less = nat_list_cmp_total.antisymm b a ∙ ap ordering_reverse t in
          let e = sym (one.1 b less) ∙ same b ∙ other.0 in cc
    ] refl

not_there : (key first : List ℕ) → by_slots key first ≡ Less → is_at (by_slots key) first ≡ false
not_there key first less = ap is_eq less

module _ {A : Type 0} where
  abbrev pub AreAbove : List ℕ → List (List ℕ × A) → Type 0
  AreAbove key [] = ⊤
  AreAbove key (e ∷ es) = (by_slots key e.0 ≡ Less) × AreAbove key es

  abbrev pub AreRising : List (List ℕ × A) → Type 0
  AreRising [] = ⊤
  AreRising (e ∷ es) = AreAbove e.0 es × AreRising es

  -- nothing stands at a key below all
  none_below : (key : List ℕ) (es : List (List ℕ × A)) → AreAbove key es → lookup (is_at (by_slots key)) es ≡ None
  none_below key [] above = refl
  none_below key (e ∷ es) above = ap (λ r. cond (is_eq r) (Some e.1) (lookup (is_at (by_slots key)) es)) above.0 ∙ none_below key es above.1

  lower : (key first : List ℕ) (es : List (List ℕ × A)) → by_slots key first ≡ Less → AreAbove first es → AreAbove key es
  lower key first [] less above = tt
  lower key first (e ∷ es) less above = (nat_list_cmp_total.trans key first e.0 less above.0, lower key first es less above.1)

  pub found_first : (test : List ℕ × A → Bool) (es : List (List ℕ × A)) → AreRising es → IsFirst (λ key. passes_at test key (lookup (is_at (by_slots key)) es)) (option_map (λ entry. entry.0) (find test es))
  found_first test [] rising = λ key. refl
  found_first test (e ∷ es) rising =
      elim (test e) as (λ b. test e ≡ b → IsFirst (λ key. passes_at test key (lookup (is_at (by_slots key)) (e ∷ es))) (option_map (λ entry. entry.0) (cond b (Some e) (find test es)))) [
        | true ↦ λ t. (
          ap (λ b. passes_at test e.0 (cond b (Some e.1) (lookup (is_at (by_slots e.0)) es))) (key_itself e.0) ∙ t,
          λ key less.
              ap (λ b. passes_at test key (cond b (Some e.1) (lookup (is_at (by_slots key)) es))) (not_there key e.0 less)
              ∙ ap (passes_at test key) (none_below key es (lower key e.0 es less rising.0)),
        )
        | false ↦ λ f.
            later (find test es) f (found_first test es rising.1)
      ] refl
    where
      -- a key at which the others don't pass
      kept : (key : List ℕ) → test e ≡ false → passes_at test key (lookup (is_at (by_slots key)) es) ≡ false → passes_at test key (lookup (is_at (by_slots key)) (e ∷ es)) ≡ false
      kept key f none = elim (is_at (by_slots key) e.0) as (λ b. is_at (by_slots key) e.0 ≡ b → passes_at test key (cond b (Some e.1) (lookup (is_at (by_slots key)) es)) ≡ false) [
        | true ↦ λ t. ap (λ k. test (k, e.1)) (same_key key e.0 t) ∙ f
        | false ↦ λ _. none
      ] refl

      later : (r : Option (List ℕ × A)) → test e ≡ false → IsFirst (λ key. passes_at test key (lookup (is_at (by_slots key)) es)) (option_map (λ entry. entry.0) r) →
          IsFirst (λ key. passes_at test key (lookup (is_at (by_slots key)) (e ∷ es))) (option_map (λ entry. entry.0) r)
      later None f rest = λ key. kept key f (rest key)
      later (Some first) f rest = (
        elim (is_at (by_slots first.0) e.0) as (λ b. is_at (by_slots first.0) e.0 ≡ b → passes_at test first.0 (cond b (Some e.1) (lookup (is_at (by_slots first.0)) es)) ≡ true) [
          | true ↦ λ t.
              let none : lookup (is_at (by_slots first.0)) es ≡ None = ap (λ k. lookup (is_at (by_slots k)) es) (same_key first.0 e.0 t) ∙ none_below e.0 es rising.0 in
              let no : passes_at test first.0 (lookup (is_at (by_slots first.0)) es) ≡ false = ap (passes_at test first.0) none in
              let yes : false ≡ true = sym no ∙ rest.0 in
              cc
          | false ↦ λ _. rest.0
        ] refl,
        λ key less. kept key f (rest.1 key less),
      )

  pub rising_sorted : (es : List (List ℕ × A)) → is_sorted by_slots es ≡ true → AreRising es
  rising_sorted [] sorted = tt
  rising_sorted (e ∷ es) sorted =
      let parts = both_true (below_all by_slots e.0 es) (is_sorted by_slots es) sorted in
      (above e.0 es parts.0, rising_sorted es parts.1)
    where
      less_of : (r : Ordering) → is_lt r ≡ true → r ≡ Less
      less_of Less p = refl
      less_of Equal p = cc
      less_of Greater p = cc

      above : (key : List ℕ) (xs : List (List ℕ × A)) → below_all by_slots key xs ≡ true → AreAbove key xs
      above key [] below = tt
      above key (x ∷ xs) below =
          let parts = both_true (is_lt (by_slots key x.0)) (below_all by_slots key xs) below in
          (less_of (by_slots key x.0) parts.0, above key xs parts.1)

  pub rising_keys : (es : List (List ℕ × A)) → IsStrictlySortedBy by_slots (keys_of es) → AreRising es
  rising_keys [] sorted = tt
  rising_keys (e ∷ es) sorted = (above e.0 es (sorted_head by_slots e.0 (keys_of es) sorted), rising_keys es (sorted_tail by_slots e.0 (keys_of es) sorted))
    where
      above : (key : List ℕ) (xs : List (List ℕ × A)) → AllByRecursion (λ y. by_slots key y ≡ Less) (keys_of xs) → AreAbove key xs
      above key [] all = tt
      above key (x ∷ xs) all = (all.0, above key xs all.1)
