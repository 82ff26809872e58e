-- No value is deeper than the deepest of a dimension's values.
use Rattle.std.proofs.Common.{◌≡◌, ℕ, suc, zero, ◌==◌, ◌||◌, ◌<◌, ◌≤◌, ◌+◌, true, false, List, [], ◌∷◌, length, map, Some, None, slice_get, refl, sym, ap, ◌∙◌, arith}
use Rattle.std.specs.Option.{option_map}
use Rattle.std.proofs.lemmas.Bool.Decides.{Decides-eqb}
use Rattle.aw_dim.specs.DimensionState.{Entry}
use Rattle.aw_rel.specs.Hierarchy.{Tree, parent_in, is_among, slots_in, IsHierarchy}
use Rattle.aw_rel.proofs.CallerLemmas.{same_number}
use Rattle.agg_run.specs.inside.Levels.{depth_within, depth_in, one_more}
use Rattle.agg_run.proofs.Depths.{value_with_parent}

depth_none : (tree : Tree) (n slot : ℕ) → parent_in tree slot ≡ None → depth_within tree n slot ≡ 0
depth_none tree zero slot none = refl
depth_none tree (suc n) slot none = ap (λ p. one_more (option_map (λ q. depth_within tree n q) p)) none

-- what is no value has no parent
stranger : (tree : Tree) (slot : ℕ) → is_among (slots_in tree) slot ≡ false → parent_in tree slot ≡ None
stranger tree slot out = elim (parent_in tree slot) as (λ p. parent_in tree slot ≡ p → p ≡ None) [
  | None ↦ λ _. refl
  | Some p ↦ λ has. let t = value_with_parent tree slot p has in cc
] refl

pub slot_there : (entries : List Entry) (place : ℕ) → place < length entries → option_map (λ entry. entry.0) (slice_get entries place) ≡ None → ⊥
slot_there [] place within none = omega (arith, within)
slot_there (e ∷ entries) zero within none = cc
slot_there (e ∷ entries) (suc place) within none = slot_there entries place (omega (arith, within)) none

place_with : (entries : List Entry) (slot : ℕ) → is_among (map (λ entry. entry.0) entries) slot ≡ true → (k : ℕ) × (k < length entries) × (option_map (λ entry. entry.0) (slice_get entries k) ≡ Some slot)
place_with [] slot among = cc
place_with (e ∷ entries) slot among =
    elim (slot == e.0) as (λ b. (slot == e.0) ≡ b → (b || is_among (map (λ entry. entry.0) entries) slot) ≡ true → (k : ℕ) × (k < length (e ∷ entries)) × (option_map (λ entry. entry.0) (slice_get (e ∷ entries) k) ≡ Some slot)) [
      | true ↦ λ t _. (zero, omega arith, ap Some (sym (same_number slot e.0 t)))
      | false ↦ λ _ rest. let r = place_with entries slot rest in (suc r.0, omega (arith, r.1), r.2)
    ] refl among

-- the first so many values are no deeper
abbrev pub AreNoDeeper : Tree → List Entry → ℕ → ℕ → Type 0
AreNoDeeper tree entries count height = (k : ℕ) (slot : ℕ) → k < count → option_map (λ entry. entry.0) (slice_get entries k) ≡ Some slot → depth_in tree slot ≤ height

pub no_deeper : (tree : Tree) (entries : List Entry) (height : ℕ) → slots_in tree ≡ map (λ entry. entry.0) entries → AreNoDeeper tree entries (length entries) height → (slot : ℕ) → depth_in tree slot ≤ height
no_deeper tree entries height same each slot =
    elim (is_among (slots_in tree) slot) as (λ b. is_among (slots_in tree) slot ≡ b → depth_in tree slot ≤ height) [
      | true ↦ λ t. let r = place_with entries slot (ap (λ l. is_among l slot) (sym same) ∙ t) in each r.0 slot r.1 r.2
      | false ↦ λ f. let none = depth_none tree (length tree) slot (stranger tree slot f) in omega (arith, none)
    ] refl

-- one value more
pub no_deeper-more : (tree : Tree) (entries : List Entry) (count height new : ℕ) (slot depth : ℕ) → option_map (λ entry. entry.0) (slice_get entries count) ≡ Some slot → depth ≡ depth_in tree slot → depth ≤ new → height ≤ new → AreNoDeeper tree entries count height → AreNoDeeper tree entries (count + 1) new
no_deeper-more tree entries count height new slot depth here is fits more each k s below at =
    elim (k == count) as (λ b. (k == count) ≡ b → depth_in tree s ≤ new) [
      | true ↦ λ t.
          let same = same_number k count t in
          let both : Some slot ≡ Some s = sym here ∙ ap (λ n. option_map (λ (entry : Entry). entry.0) (slice_get entries n)) (sym same) ∙ at in
          let one : slot ≡ s = cc in
          let deep : depth_in tree slot ≡ depth_in tree s = ap (depth_in tree) one in
          omega (arith, is, fits, deep)
      | false ↦ λ f.
          let other : k ≡ count → ⊥ = λ e. let t = same_back k count e in cc in
          let r = each k s (omega (arith, below, other)) at in omega (arith, r, more)
    ] refl
  where
    same_back : (a b : ℕ) → a ≡ b → (a == b) ≡ true
    same_back a b e = (Decides-eqb a b).1 e

pub length-slots : (tree : Tree) → length (slots_in tree) ≡ length tree
length-slots [] = refl
length-slots (e ∷ tree) = ap suc (length-slots tree)

pub length-entries : (entries : List Entry) → length (map (λ entry. entry.0) entries) ≡ length entries
length-entries [] = refl
length-entries (e ∷ entries) = ap suc (length-entries entries)

pub same_size : (tree : Tree) (entries : List Entry) → slots_in tree ≡ map (λ entry. entry.0) entries → length tree ≡ length entries
same_size tree entries same = sym (length-slots tree) ∙ ap (λ (l : List ℕ). length l) same ∙ length-entries entries

pub height_step : (tree : Tree) (entries : List Entry) (place height new slot depth most : ℕ) → option_map (λ entry. entry.0) (slice_get entries place) ≡ Some slot → depth ≡ depth_in tree slot → depth ≤ new → height ≤ new → new ≤ most → IsHierarchy tree → AreNoDeeper tree entries place height →
    (new ≤ most) × AreNoDeeper tree entries (place + 1) new × (0 < place + 1 → IsHierarchy tree)
height_step tree entries place height new slot depth most here is fits more below valid each = (below, no_deeper-more tree entries place height new slot depth here is fits more each, λ _. valid)

pub valid_by : (tree : Tree) (entries : List Entry) (count : ℕ) → slots_in tree ≡ map (λ entry. entry.0) entries → length entries ≤ count → (0 < count → IsHierarchy tree) → IsHierarchy tree
valid_by [] entries count same end valid = record { apart = λ i j d less within. absurd (omega (arith, within)); parents = λ slot parent has. cc; no_loop = refl }
valid_by (e ∷ tree) entries count same end valid = valid (let size = same_size (e ∷ tree) entries same in omega (arith, size, end))
