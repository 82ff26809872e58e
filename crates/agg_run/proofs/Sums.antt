-- Sums of folds over lists: a map's fold at a key is the sum over its entries, and at most one of several adds something.
use Rattle.std.proofs.Common.{◌≡◌, ◌≢◌, ℕ, suc, zero, ◌==◌, ◌<◌, cond, Bool, true, false, ◌||◌, List, [], ◌∷◌, length, get_or, Option, Some, None, refl, sym, ap, ◌∙◌, arith}
use Rattle.std.specs.List.{list_any, filter, AllPairs, IsDistinct}
use Rattle.std.specs.Prelude.{⊤}
use Rattle.std.specs.Option.{option_map}
use Rattle.std.specs.Map.{lookup, keys_of}
use Rattle.std.specs.BTreeMap.{is_at}
use Rattle.std.specs.Ordering.{eq_by_cmp}
use Rattle.std.specs.Cmp.{eq_by_cmp_equiv}
use Rattle.std.specs.Cmp.Lexicographic.{nat_list_cmp_total}
use Rattle.std.proofs.lemmas.Map.{NonePasses}
use Rattle.std.proofs.lemmas.Map.Entries.{none_past_head}
use Rattle.std.proofs.lemmas.Map.Keys.{IsDistinct-tail}
use Rattle.aw_cell.specs.declared.operator.Operator.{Operator}
use Rattle.aw_rel.specs.Hierarchy.{Tree, is_among, slots_in}
use Rattle.aw_rel.proofs.CallerLemmas.{or_left, or_right, same_number, number_itself}
use Rattle.aw_var.specs.CellMap.{by_slots}
use Rattle.agg_run.specs.inside.Folds.{with, summed}
use Rattle.agg_run.specs.declared.folding.Fold.{Fold}
use Rattle.agg_run.proofs.Joining.{with-none}
use Rattle.agg_run.proofs.Climbing.{same_key}

-- each key compares equal to itself, and so either way
pub key_itself : (key : List ℕ) → is_at (by_slots key) key ≡ true
key_itself key = (eq_by_cmp_equiv nat_list_cmp_total).refl key

pub key_test : (one other : List ℕ) → one ≡ other → is_at (by_slots one) other ≡ true
key_test one other same = ap (is_at (by_slots one)) (sym same) ∙ key_itself one

bools : (a b : Bool) → (a ≡ true → b ≡ true) → (b ≡ true → a ≡ true) → a ≡ b
bools true b f g = sym (f refl)
bools false true f g = g refl
bools false false f g = refl

pub key_turned : (one other : List ℕ) → is_at (by_slots one) other ≡ is_at (by_slots other) one
key_turned one other = bools (is_at (by_slots one) other) (is_at (by_slots other) one) (λ t. key_test other one (sym (same_key one other t))) (λ t. key_test one other (sym (same_key other one t)))

-- where no key passes, nothing is added
module _ {V : Type 0} (o : Operator) (f : V → Fold) where
  pub summed-passed : (test : List ℕ → Bool) (es : List (List ℕ × V)) → NonePasses test es → summed o (λ e. cond (test e.0) (Some (f e.1)) None) es ≡ None
  summed-passed test [] none = refl
  summed-passed test (e ∷ es) none = ap (λ b. with o (cond b (Some (f e.1)) None) (summed o (λ x. cond (test x.0) (Some (f x.1)) None) es)) none.0 ∙ summed-passed test es none.1

  -- what a map has at a key is the sum over its entries
  pub summed-lookup : (key : List ℕ) (es : List (List ℕ × V)) → IsDistinct (eq_by_cmp by_slots) (keys_of es) →
      summed o (λ e. cond (is_at (by_slots key) e.0) (Some (f e.1)) None) es ≡ option_map f (lookup (is_at (by_slots key)) es)
  summed-lookup key [] distinct = refl
  summed-lookup key (e ∷ es) distinct =
      elim (is_at (by_slots key) e.0) as (λ b. is_at (by_slots key) e.0 ≡ b → with o (cond b (Some (f e.1)) None) (summed o (λ x. cond (is_at (by_slots key) x.0) (Some (f x.1)) None) es) ≡ option_map f (cond b (Some e.1) (lookup (is_at (by_slots key)) es))) [
        | true ↦ λ t. ap (with o (Some (f e.1))) (summed-passed (is_at (by_slots key)) es (none_past_head (eq_by_cmp_equiv nat_list_cmp_total) key e es distinct t))
        | false ↦ λ _. summed-lookup key es (IsDistinct-tail (eq_by_cmp by_slots) e.0 (keys_of es) distinct)
      ] refl

-- ---- at most one of several

-- no number stands in the list twice
abbrev pub Apart : List ℕ → Type 0
Apart [] = ⊤
Apart (y ∷ ys) = (is_among ys y ≡ false) × Apart ys

pub place_of : (xs : List ℕ) (x d : ℕ) → is_among xs x ≡ true → (k : ℕ) × (k < length xs) × (get_or xs k d ≡ x)
place_of [] x d h = cc
place_of (y ∷ xs) x d h =
    elim (x == y) as (λ b. (x == y) ≡ b → (b || is_among xs x) ≡ true → (k : ℕ) × (k < length (y ∷ xs)) × (get_or (y ∷ xs) k d ≡ x)) [
      | true ↦ λ t _. (zero, omega arith, sym (same_number x y t))
      | false ↦ λ _ rest. let r = place_of xs x d rest in (suc r.0, omega (arith, r.1), r.2)
    ] refl h

pub Apart-pairs : (xs : List ℕ) → AllPairs (λ one other. one ≢ other) xs → Apart xs
Apart-pairs [] apart = tt
Apart-pairs (x ∷ xs) apart = (
  elim (is_among xs x) as (λ b. is_among xs x ≡ b → b ≡ false) [
    | true ↦ λ t. let p = place_of xs x x t in absurd (apart zero (suc p.0) x (omega arith) (omega (arith, p.1)) (sym p.2))
    | false ↦ λ _. refl
  ] refl,
  Apart-pairs xs (λ i j d less within. apart (suc i) (suc j) d (omega (arith, less)) (omega (arith, within))),
)

filtered_among : (p : ℕ × Option ℕ → Bool) (tree : Tree) (v : ℕ) → is_among (slots_in (filter p tree)) v ≡ true → is_among (slots_in tree) v ≡ true
filtered_among p [] v h = cc
filtered_among p (e ∷ tree) v h =
    elim (p e) as (λ b. is_among (slots_in (cond b (e ∷ filter p tree) (filter p tree))) v ≡ true → is_among (slots_in (e ∷ tree)) v ≡ true) [
      | true ↦ λ within.
          elim (v == e.0) as (λ c. (v == e.0) ≡ c → (c || is_among (slots_in (filter p tree)) v) ≡ true → is_among (slots_in (e ∷ tree)) v ≡ true) [
            | true ↦ λ t _. or_left (v == e.0) (is_among (slots_in tree) v) t
            | false ↦ λ _ rest. or_right (v == e.0) (is_among (slots_in tree) v) (filtered_among p tree v rest)
          ] refl within
      | false ↦ λ rest. or_right (v == e.0) (is_among (slots_in tree) v) (filtered_among p tree v rest)
    ] h

pub Apart-filter : (p : ℕ × Option ℕ → Bool) (tree : Tree) → Apart (slots_in tree) → Apart (slots_in (filter p tree))
Apart-filter p [] apart = tt
Apart-filter p (e ∷ tree) apart =
    elim (p e) as (λ b. Apart (slots_in (cond b (e ∷ filter p tree) (filter p tree)))) [
      | true ↦ (
        elim (is_among (slots_in (filter p tree)) e.0) as (λ b. is_among (slots_in (filter p tree)) e.0 ≡ b → b ≡ false) [
          | true ↦ λ t. sym (filtered_among p tree e.0 t) ∙ apart.0
          | false ↦ λ _. refl
        ] refl,
        Apart-filter p tree apart.1,
      )
      | false ↦ Apart-filter p tree apart.1
    ]

-- one of them passes
pub any_by : (c : ℕ → Bool) (ys : List ℕ) (y : ℕ) → is_among ys y ≡ true → c y ≡ true → list_any c ys ≡ true
any_by c [] y among passes = cc
any_by c (z ∷ ys) y among passes =
    elim (y == z) as (λ b. (y == z) ≡ b → (b || is_among ys y) ≡ true → list_any c (z ∷ ys) ≡ true) [
      | true ↦ λ t _. or_left (c z) (list_any c ys) (ap c (sym (same_number y z t)) ∙ passes)
      | false ↦ λ _ rest. or_right (c z) (list_any c ys) (any_by c ys y rest passes)
    ] refl among

pub any_witness : (c : ℕ → Bool) (ys : List ℕ) → list_any c ys ≡ true → (y : ℕ) × (is_among ys y ≡ true) × (c y ≡ true)
any_witness c [] h = cc
any_witness c (z ∷ ys) h =
    elim (c z) as (λ b. c z ≡ b → (b || list_any c ys) ≡ true → (y : ℕ) × (is_among (z ∷ ys) y ≡ true) × (c y ≡ true)) [
      | true ↦ λ t _. (z, or_left (z == z) (is_among ys z) (number_itself z), t)
      | false ↦ λ _ rest. let w = any_witness c ys rest in (w.0, or_right (w.0 == z) (is_among ys w.0) w.1, w.2)
    ] refl h

-- what the only one that passes adds
pub summed-one : (o : Operator) (v : Option Fold) (c : ℕ → Bool) (ys : List ℕ) → Apart ys → ((y z : ℕ) → is_among ys y ≡ true → is_among ys z ≡ true → c y ≡ true → c z ≡ true → y ≡ z) →
    summed o (λ y. cond (c y) v None) ys ≡ cond (list_any c ys) v None
summed-one o v c [] apart one = refl
summed-one o v c (y ∷ ys) apart one =
    let rest = summed-one o v c ys apart.1 (λ a b p q. one a b (or_right (a == y) (is_among ys a) p) (or_right (b == y) (is_among ys b) q)) in
    elim (c y) as (λ b. c y ≡ b → with o (cond b v None) (summed o (λ x. cond (c x) v None) ys) ≡ cond (b || list_any c ys) v None) [
      | true ↦ λ t.
          let none : list_any c ys ≡ false = elim (list_any c ys) as (λ b. list_any c ys ≡ b → b ≡ false) [
            | true ↦ λ some. let w = any_witness c ys some in
                let same = one y w.0 (or_left (y == y) (is_among ys y) (number_itself y)) (or_right (w.0 == y) (is_among ys w.0) w.1) t w.2 in
                sym (ap (is_among ys) same ∙ w.1) ∙ apart.0
            | false ↦ λ _. refl
          ] refl in
          ap (with o v) (rest ∙ ap (λ b. cond b v None) none) ∙ with-none o v
      | false ↦ λ _. rest
    ] refl

-- sums over a tree's values, where only these are looked at
pub summed-values : (o : Operator) (f g : ℕ → Option Fold) (tree : Tree) → ((v : ℕ) → is_among (slots_in tree) v ≡ true → f v ≡ g v) → summed o (λ value. f value.0) tree ≡ summed o (λ value. g value.0) tree
summed-values o f g [] same = refl
summed-values o f g (e ∷ tree) same =
    λ i. with o (same e.0 (or_left (e.0 == e.0) (is_among (slots_in tree) e.0) (number_itself e.0)) i)
    (summed-values o f g tree (λ v among. same v (or_right (v == e.0) (is_among (slots_in tree) v) among)) i)

pub summed-among : (o : Operator) (f g : ℕ → Option Fold) (ys : List ℕ) → ((v : ℕ) → is_among ys v ≡ true → f v ≡ g v) → summed o f ys ≡ summed o g ys
summed-among o f g [] same = refl
summed-among o f g (y ∷ ys) same =
    λ i. with o (same y (or_left (y == y) (is_among ys y) (number_itself y)) i)
    (summed-among o f g ys (λ v among. same v (or_right (v == y) (is_among ys v) among)) i)

pub summed-slots : (o : Operator) (f : ℕ → Option Fold) (tree : Tree) → summed o (λ value. f value.0) tree ≡ summed o f (slots_in tree)
summed-slots o f [] = refl
summed-slots o f (e ∷ tree) = ap (with o (f e.0)) (summed-slots o f tree)
