-- The cells after an aggregation, key by key: at a combination the number that comes of the lines, at another key the cell that was.
use Rattle.std.proofs.Common.{◌≡◌, ℕ, ◌==◌, cond, Bool, true, false, ◌&&◌, ◌||◌, List, [], ◌∷◌, ◌++◌, map, fold, refl, sym, ap, ◌∙◌}
use Rattle.std.specs.List.{list_any, flat_map}
use Rattle.std.specs.BTreeMap.{is_at}
use Rattle.std.specs.Cmp.Lexicographic.{nat_list_cmp_total}
use Rattle.std.proofs.lemmas.Bool.Decides.{Decides-eqb}
use Rattle.aw_cell.specs.declared.cell.Cell.{Cell}
use Rattle.aw_cell.specs.declared.cell.Kind.{Kind}
use Rattle.aw_rel.specs.Hierarchy.{is_among}
use Rattle.aw_rel.proofs.CallerLemmas.{same_number, same_tests}
use Rattle.aw_var.specs.CellMap.{Cells, cell_at, set_at, by_slots, IsCellMap}
use Rattle.aw_var.proofs.callers.FiniteMaps.{cell-set, IsMapBy-set, both_true, and_true}
use Rattle.agg_run.specs.Numbers.{cell_of}
use Rattle.agg_run.specs.Aggregates.{Line, is_combination, combinations, number_after, aggregated}
use Rattle.agg_run.proofs.Climbing.{same_key}
use Rattle.agg_run.proofs.Sums.{key_test}

module _ (value : List ℕ → Cell) where
  set_all : Cells → List (List ℕ) → Cells
  set_all cells keys = fold (λ so_far key. set_at so_far key (value key)) cells keys

  cell_all : (cells : Cells) (keys : List (List ℕ)) (q : List ℕ) → cell_at (set_all cells keys) q ≡ cond (list_any (λ k. is_at (by_slots q) k) keys) (value q) (cell_at cells q)
  unfolding set_all
  cell_all cells [] q = refl
  cell_all cells (k ∷ keys) q =
      cell_all (set_at cells k (value k)) keys q
      ∙ ap (λ c. cond (list_any (λ j. is_at (by_slots q) j) keys) (value q) c) (cell-set nat_list_cmp_total q k (value k) cells)
      ∙ elim (is_at (by_slots q) k) as (λ b. is_at (by_slots q) k ≡ b → cond (list_any (λ j. is_at (by_slots q) j) keys) (value q) (cond b (value k) (cell_at cells q)) ≡ cond (b || list_any (λ j. is_at (by_slots q) j) keys) (value q) (cell_at cells q)) [
        | true ↦ λ t. ap (λ c. cond (list_any (λ j. is_at (by_slots q) j) keys) (value q) c) (ap value (sym (same_key q k t)))
            ∙ elim (list_any (λ j. is_at (by_slots q) j) keys) as (λ b. cond b (value q) (value q) ≡ value q) [ true ↦ refl | false ↦ refl ]
        | false ↦ λ _. refl
      ] refl

  map_all : (cells : Cells) (keys : List (List ℕ)) → IsCellMap cells → IsCellMap (set_all cells keys)
  unfolding set_all
  map_all cells [] h = h
  map_all cells (k ∷ keys) h = map_all (set_at cells k (value k)) keys (IsMapBy-set nat_list_cmp_total k (value k) cells h)

any_append : (test : List ℕ → Bool) (xs ys : List (List ℕ)) → list_any test (xs ++ ys) ≡ (list_any test xs || list_any test ys)
any_append test [] ys = refl
any_append test (x ∷ xs) ys = ap (λ b. test x || b) (any_append test xs ys) ∙ either (test x) (list_any test xs) (list_any test ys)
  where
    either : (a b c : Bool) → (a || (b || c)) ≡ ((a || b) || c)
    either true b c = refl
    either false b c = refl

-- a key with a first slot is compared slot by slot
cons_test : (slot first : ℕ) (key other : List ℕ) → is_at (by_slots (slot ∷ key)) (first ∷ other) ≡ ((slot == first) && is_at (by_slots key) other)
cons_test slot first key other = same_tests (is_at (by_slots (slot ∷ key)) (first ∷ other)) ((slot == first) && is_at (by_slots key) other)
    (λ t. let same = same_key (slot ∷ key) (first ∷ other) t in
    let one : slot ≡ first = cc in let more : key ≡ other = cc in
    and_true (slot == first) (is_at (by_slots key) other) ((Decides-eqb slot first).1 one) (key_test key other more))
    (λ t. let both = both_true (slot == first) (is_at (by_slots key) other) t in
    key_test (slot ∷ key) (first ∷ other) (λ i. same_number slot first both.0 i ∷ same_key key other both.1 i))

any_map : (slot first : ℕ) (key : List ℕ) (keys : List (List ℕ)) → list_any (λ k. is_at (by_slots (slot ∷ key)) k) (map (λ (k : List ℕ). first ∷ k) keys) ≡ ((slot == first) && list_any (λ k. is_at (by_slots key) k) keys)
any_map slot first key [] = elim (slot == first) as (λ b. false ≡ (b && false)) [ true ↦ refl | false ↦ refl ]
any_map slot first key (k ∷ keys) =
    (λ i. cons_test slot first key k i || any_map slot first key keys i)
    ∙ elim (slot == first) as (λ b. ((b && is_at (by_slots key) k) || (b && list_any (λ j. is_at (by_slots key) j) keys)) ≡ (b && (is_at (by_slots key) k || list_any (λ j. is_at (by_slots key) j) keys))) [ true ↦ refl | false ↦ refl ]

no_empty : (first : ℕ) (keys : List (List ℕ)) → list_any (λ k. is_at (by_slots []) k) (map (λ (k : List ℕ). first ∷ k) keys) ≡ false
no_empty first [] = refl
no_empty first (k ∷ keys) = no_empty first keys

-- the combinations are those listed
pub combined : (dimensions : List (List ℕ)) (key : List ℕ) → list_any (λ k. is_at (by_slots key) k) (combinations dimensions) ≡ is_combination dimensions key
combined [] [] = refl
combined [] (slot ∷ key) = refl
combined (slots ∷ dimensions) [] = none slots
  where
    none : (slots : List ℕ) → list_any (λ k. is_at (by_slots []) k) (flat_map (λ slot. map (λ (k : List ℕ). slot ∷ k) (combinations dimensions)) slots) ≡ false
    none [] = refl
    none (first ∷ slots) = any_append (λ k. is_at (by_slots []) k) (map (λ (k : List ℕ). first ∷ k) (combinations dimensions)) (flat_map (λ slot. map (λ (k : List ℕ). slot ∷ k) (combinations dimensions)) slots) ∙ (λ i. no_empty first (combinations dimensions) i || none slots i)
combined (slots ∷ dimensions) (slot ∷ key) = some slots ∙ ap (λ b. is_among slots slot && b) (combined dimensions key)
  where
    some : (slots : List ℕ) → list_any (λ k. is_at (by_slots (slot ∷ key)) k) (flat_map (λ first. map (λ (k : List ℕ). first ∷ k) (combinations dimensions)) slots) ≡ (is_among slots slot && list_any (λ k. is_at (by_slots key) k) (combinations dimensions))
    some [] = refl
    some (first ∷ slots) =
        any_append (λ k. is_at (by_slots (slot ∷ key)) k) (map (λ (k : List ℕ). first ∷ k) (combinations dimensions)) (flat_map (λ s. map (λ (k : List ℕ). s ∷ k) (combinations dimensions)) slots)
        ∙ (λ i. any_map slot first key (combinations dimensions) i || some slots i)
        ∙ elim (slot == first) as (λ b. ((b && list_any (λ k. is_at (by_slots key) k) (combinations dimensions)) || (is_among slots slot && list_any (λ k. is_at (by_slots key) k) (combinations dimensions))) ≡ ((b || is_among slots slot) && list_any (λ k. is_at (by_slots key) k) (combinations dimensions))) [
          | true ↦ twice (list_any (λ k. is_at (by_slots key) k) (combinations dimensions)) (is_among slots slot)
          | false ↦ refl
        ]
      where
        twice : (a b : Bool) → (a || (b && a)) ≡ a
        twice true b = refl
        twice false true = refl
        twice false false = refl

-- the cells afterwards, key by key
pub aggregated_at : (kind : Kind) (dimensions : List (List ℕ)) (lines : List Line) (cells : Cells) (key : List ℕ) →
    cell_at (aggregated kind dimensions lines cells) key ≡ cond (is_combination dimensions key) (cell_of kind (number_after kind dimensions lines cells key)) (cell_at cells key)
unfolding set_all
aggregated_at kind dimensions lines cells key =
    cell_all (λ k. cell_of kind (number_after kind dimensions lines cells k)) cells (combinations dimensions) key
    ∙ ap (λ b. cond b (cell_of kind (number_after kind dimensions lines cells key)) (cell_at cells key)) (combined dimensions key)

pub aggregated_map : (kind : Kind) (dimensions : List (List ℕ)) (lines : List Line) (cells : Cells) → IsCellMap cells → IsCellMap (aggregated kind dimensions lines cells)
unfolding set_all
aggregated_map kind dimensions lines cells h = map_all (λ k. cell_of kind (number_after kind dimensions lines cells k)) cells (combinations dimensions) h
