-- Sums along several lines are one sum over the product of the leaves.
use Rattle.std.proofs.Common.{◌≡◌, ◌≢◌, ℕ, suc, zero, ◌==◌, ◌||◌, ◌<◌, cond, Bool, true, false, IsTrue, ℤ, pos, ◌+ℤ◌, List, [], ◌∷◌, ◌++◌, length, map, fold, slice_set, get_or, Option, Some, None, refl, sym, ap, ◌∙◌, arith}
use Rattle.std.specs.Prelude.{⊤}
use Rattle.std.specs.List.{filter, flat_map}
use Rattle.std.proofs.lemmas.Int.{ints}
use Rattle.aw_cell.specs.declared.cell.Kind.{Kind}
use Rattle.aw_cell.specs.declared.operator.Operator.TheVariants.{Sum}
use Rattle.aw_rel.specs.Hierarchy.{Tree, is_among, is_leaf, slots_in, leaves_in, IsHierarchy}
use Rattle.aw_rel.proofs.CallerLemmas.{same_number}
use Rattle.aw_var.specs.CellMap.{Cells}
use Rattle.aw_var.proofs.callers.FiniteMaps.{both_true}
use Rattle.agg_run.specs.Numbers.{present, total, operated, operated_present}
use Rattle.agg_run.specs.Aggregates.{Line, Numbers, slot_at, is_combination, numbers_at, number_after, at_leaves, pass, passes}
use Rattle.agg_run.specs.Laws.{leaf_keys, AreSums}
use Rattle.agg_run.proofs.Lifting.{set_same}
use Rattle.agg_run.proofs.Sums.{Apart, Apart-pairs}
use Rattle.agg_run.proofs.Leaves.{below, below_leaf}

-- ---- sums of numbers that may be NA

abbrev plus : Option ℤ → Option ℤ → Option ℤ
plus None other = other
plus (Some one) None = Some one
plus (Some one) (Some other) = Some (one +ℤ other)

abbrev sum_of : {X : Type 0} → (X → Option ℤ) → List X → Option ℤ
sum_of f [] = None
sum_of f (x ∷ xs) = plus (f x) (sum_of f xs)

add-comm : (a b : ℤ) → a +ℤ b ≡ b +ℤ a
add-comm a b = omega (arith, ints)

add-assoc : (a b c : ℤ) → (a +ℤ b) +ℤ c ≡ a +ℤ (b +ℤ c)
add-assoc a b c = omega (arith, ints)

plus-none : (a : Option ℤ) → plus a None ≡ a
plus-none None = refl
plus-none (Some a) = refl

plus-comm : (a b : Option ℤ) → plus a b ≡ plus b a
plus-comm None None = refl
plus-comm None (Some b) = refl
plus-comm (Some a) None = refl
plus-comm (Some a) (Some b) = ap Some (add-comm a b)

plus-assoc : (a b c : Option ℤ) → plus (plus a b) c ≡ plus a (plus b c)
plus-assoc None b c = refl
plus-assoc (Some a) None c = refl
plus-assoc (Some a) (Some b) None = refl
plus-assoc (Some a) (Some b) (Some c) = ap Some (add-assoc a b c)

plus-four : (a b c d : Option ℤ) → plus (plus a b) (plus c d) ≡ plus (plus a c) (plus b d)
plus-four a b c d =
    plus-assoc a b (plus c d)
    ∙ ap (plus a) (sym (plus-assoc b c d) ∙ ap (λ x. plus x d) (plus-comm b c) ∙ plus-assoc c b d)
    ∙ sym (plus-assoc a c (plus b d))

module _ {X : Type 0} where
  sum-none : (xs : List X) → sum_of (λ (x : X). None) xs ≡ None
  sum-none [] = refl
  sum-none (x ∷ xs) = sum-none xs

  sum-with : (f g : X → Option ℤ) (xs : List X) → sum_of (λ x. plus (f x) (g x)) xs ≡ plus (sum_of f xs) (sum_of g xs)
  sum-with f g [] = refl
  sum-with f g (x ∷ xs) = ap (plus (plus (f x) (g x))) (sum-with f g xs) ∙ plus-four (f x) (g x) (sum_of f xs) (sum_of g xs)

  sum-same : (f g : X → Option ℤ) (xs : List X) → ((x : X) → f x ≡ g x) → sum_of f xs ≡ sum_of g xs
  sum-same f g [] same = refl
  sum-same f g (x ∷ xs) same = λ i. plus (same x i) (sum-same f g xs same i)

  sum-append : (f : X → Option ℤ) (xs ys : List X) → sum_of f (xs ++ ys) ≡ plus (sum_of f xs) (sum_of f ys)
  sum-append f [] ys = refl
  sum-append f (x ∷ xs) ys = ap (plus (f x)) (sum-append f xs ys) ∙ sym (plus-assoc (f x) (sum_of f xs) (sum_of f ys))

sum-map : {X Y : Type 0} (f : Y → Option ℤ) (g : X → Y) (xs : List X) → sum_of f (map g xs) ≡ sum_of (λ x. f (g x)) xs
sum-map f g [] = refl
sum-map f g (x ∷ xs) = ap (plus (f (g x))) (sum-map f g xs)

sum-swap : {X Y : Type 0} (h : X → Y → Option ℤ) (xs : List X) (ys : List Y) → sum_of (λ x. sum_of (h x) ys) xs ≡ sum_of (λ y. sum_of (λ x. h x y) xs) ys
sum-swap h [] ys = sym (sum-none ys)
sum-swap h (x ∷ xs) ys = ap (plus (sum_of (h x) ys)) (sum-swap h xs ys) ∙ sym (sum-with (h x) (λ y. sum_of (λ z. h z y) xs) ys)

sum-flat : {X Y : Type 0} (f : Y → Option ℤ) (g : X → List Y) (xs : List X) → sum_of f (flat_map g xs) ≡ sum_of (λ x. sum_of f (g x)) xs
sum-flat f g [] = refl
sum-flat f g (x ∷ xs) = sum-append f (g x) (flat_map g xs) ∙ ap (plus (sum_of f (g x))) (sum-flat f g xs)

-- the operator SUM is this sum
fold_plus : (a : ℤ) (zs : List ℤ) → fold ◌+ℤ◌ a zs ≡ a +ℤ fold ◌+ℤ◌ (pos 0) zs
fold_plus a [] = omega (arith, ints)
fold_plus a (z ∷ zs) =
    let one = fold_plus (a +ℤ z) zs in
    let other = fold_plus (pos 0 +ℤ z) zs in
    one ∙ add-assoc a z (fold ◌+ℤ◌ (pos 0) zs) ∙ ap (λ x. a +ℤ x) (ap (λ x. x +ℤ fold ◌+ℤ◌ (pos 0) zs) (zero-plus z) ∙ sym other)
  where
    zero-plus : (x : ℤ) → x ≡ pos 0 +ℤ x
    zero-plus x = omega (arith, ints)

operated_sum : (kind : Kind) (zs : List (Option ℤ)) → sum_of (λ z. z) zs ≡ operated kind Sum zs
operated_sum kind [] = refl
operated_sum kind (None ∷ zs) = operated_sum kind zs
operated_sum kind (Some z ∷ zs) = ap (plus (Some z)) (operated_sum kind zs) ∙ cases (present zs)
  where
    zero-plus : (x : ℤ) → x ≡ pos 0 +ℤ x
    zero-plus x = omega (arith, ints)

    cases : (ps : List ℤ) → plus (Some z) (operated_present kind Sum ps) ≡ operated_present kind Sum (z ∷ ps)
    cases [] = ap Some (zero-plus z)
    cases (y ∷ ys) = ap Some (ap (λ x. x +ℤ total (y ∷ ys)) (zero-plus z) ∙ sym (fold_plus (pos 0 +ℤ z) (y ∷ ys)))

-- ---- one line

nobody : (tree : Tree) (slot : ℕ) → is_among (slots_in tree) slot ≡ false → slots_in (filter (λ v. slot == v.0) tree) ≡ []
nobody [] slot out = refl
nobody (e ∷ tree) slot out =
    elim (slot == e.0) as (λ b. (b || is_among (slots_in tree) slot) ≡ false → slots_in (cond b (e ∷ filter (λ v. slot == v.0) tree) (filter (λ v. slot == v.0) tree)) ≡ []) [
      | true ↦ λ o. cc
      | false ↦ λ o. nobody tree slot o
    ] out

only_one : (tree : Tree) (slot : ℕ) → Apart (slots_in tree) → is_among (slots_in tree) slot ≡ true → slots_in (filter (λ v. slot == v.0) tree) ≡ slot ∷ []
only_one [] slot apart among = cc
only_one (e ∷ tree) slot apart among =
    elim (slot == e.0) as (λ b. (slot == e.0) ≡ b → (b || is_among (slots_in tree) slot) ≡ true → slots_in (cond b (e ∷ filter (λ v. slot == v.0) tree) (filter (λ v. slot == v.0) tree)) ≡ slot ∷ []) [
      | true ↦ λ t _.
          let same = same_number slot e.0 t in
          λ i. sym same i ∷ nobody tree slot (ap (is_among (slots_in tree)) same ∙ apart.0) i
      | false ↦ λ _ rest. only_one tree slot apart.1 rest
    ] refl among

filter_same : (p q : ℕ × Option ℕ → Bool) (xs : Tree) → ((x : ℕ × Option ℕ) → p x ≡ q x) → filter p xs ≡ filter q xs
filter_same p q [] same = refl
filter_same p q (x ∷ xs) same = λ i. cond (same x i) (x ∷ filter_same p q xs same i) (filter_same p q xs same i)

leaves_of_leaf : (tree : Tree) (slot : ℕ) → IsHierarchy tree → is_leaf tree slot ≡ true → is_among (slots_in tree) slot ≡ true → leaves_in tree slot ≡ slot ∷ []
leaves_of_leaf tree slot h leaf among =
    ap slots_in (filter_same (λ v. below tree slot v.0) (λ v. slot == v.0) tree (λ v. below_leaf tree slot v.0 leaf))
    ∙ only_one tree slot (Apart-pairs (slots_in tree) h.apart) among

pass_sum : (kind : Kind) (line : Line) (f : Numbers) (key : List ℕ) → line.operator ≡ Sum → IsHierarchy line.tree → is_among (slots_in line.tree) (slot_at key line.place) ≡ true →
    pass kind f line key ≡ sum_of (λ leaf. f (slice_set key line.place leaf)) (leaves_in line.tree (slot_at key line.place))
pass_sum kind line f key sum h among =
    elim (is_leaf line.tree (slot_at key line.place)) as (λ b. is_leaf line.tree (slot_at key line.place) ≡ b → cond b (f key) (operated kind line.operator (at_leaves line f key)) ≡ sum_of (λ leaf. f (slice_set key line.place leaf)) (leaves_in line.tree (slot_at key line.place))) [
      | true ↦ λ t.
          ap f (sym (set_same key line.place 0)) ∙ sym (plus-none (f (slice_set key line.place (slot_at key line.place))))
          ∙ ap (sum_of (λ leaf. f (slice_set key line.place leaf))) (sym (leaves_of_leaf line.tree (slot_at key line.place) h t among))
      | false ↦ λ _.
          ap (λ o. operated kind o (at_leaves line f key)) sum ∙ sym (operated_sum kind (at_leaves line f key))
          ∙ sum-map (λ (z : Option ℤ). z) (λ leaf. f (slice_set key line.place leaf)) (leaves_in line.tree (slot_at key line.place))
    ] refl

-- ---- several lines

slot_elsewhere : (key : List ℕ) (p q v : ℕ) → p ≢ q → slot_at (slice_set key p v) q ≡ slot_at key q
slot_elsewhere [] p q v other = refl
slot_elsewhere (x ∷ key) zero zero v other = absurd (other refl)
slot_elsewhere (x ∷ key) zero (suc q) v other = refl
slot_elsewhere (x ∷ key) (suc p) zero v other = refl
slot_elsewhere (x ∷ key) (suc p) (suc q) v other = slot_elsewhere key p q v (λ e. other (ap suc e))

set_turned : (key : List ℕ) (p q a b : ℕ) → p ≢ q → slice_set (slice_set key q b) p a ≡ slice_set (slice_set key p a) q b
set_turned [] p q a b other = refl
set_turned (x ∷ key) zero zero a b other = absurd (other refl)
set_turned (x ∷ key) zero (suc q) a b other = refl
set_turned (x ∷ key) (suc p) zero a b other = refl
set_turned (x ∷ key) (suc p) (suc q) a b other = ap (λ (l : List ℕ). x ∷ l) (set_turned key p q a b (λ e. other (ap suc e)))

-- no line has this place
abbrev AreElsewhere : ℕ → List Line → Type 0
AreElsewhere place [] = ⊤
AreElsewhere place (line ∷ lines) = (place ≢ line.place) × AreElsewhere place lines

abbrev AreFine : List ℕ → List Line → Type 0
AreFine key [] = ⊤
AreFine key (line ∷ lines) = (line.operator ≡ Sum) × IsHierarchy line.tree × (is_among (slots_in line.tree) (slot_at key line.place) ≡ true) × AreElsewhere line.place lines × AreFine key lines

-- what holds at a slot of a place holds at all keys of other lines' leaves
same_under : (lines : List Line) (key : List ℕ) (place slot : ℕ) (g h : List ℕ → Option ℤ) → AreElsewhere place lines → slot_at key place ≡ slot → ((k : List ℕ) → slot_at k place ≡ slot → g k ≡ h k) → sum_of g (leaf_keys lines key) ≡ sum_of h (leaf_keys lines key)
same_under [] key place slot g h elsewhere at same = ap (λ z. plus z None) (same key at)
same_under (line ∷ lines) key place slot g h elsewhere at same =
    sum-flat g (λ leaf. leaf_keys lines (slice_set key line.place leaf)) (leaves_in line.tree (slot_at key line.place))
    ∙ sum-same (λ leaf. sum_of g (leaf_keys lines (slice_set key line.place leaf))) (λ leaf. sum_of h (leaf_keys lines (slice_set key line.place leaf))) (leaves_in line.tree (slot_at key line.place))
    (λ leaf. same_under lines (slice_set key line.place leaf) place slot g h elsewhere.1 (slot_elsewhere key line.place place leaf (λ e. elsewhere.0 (sym e)) ∙ at) same)
    ∙ sym (sum-flat h (λ leaf. leaf_keys lines (slice_set key line.place leaf)) (leaves_in line.tree (slot_at key line.place)))

-- a slot may be set before or after
moved : (lines : List Line) (key : List ℕ) (place slot : ℕ) (f : Numbers) → AreElsewhere place lines → sum_of (λ k. f (slice_set k place slot)) (leaf_keys lines key) ≡ sum_of f (leaf_keys lines (slice_set key place slot))
moved [] key place slot f elsewhere = refl
moved (line ∷ lines) key place slot f elsewhere =
    sum-flat (λ k. f (slice_set k place slot)) (λ leaf. leaf_keys lines (slice_set key line.place leaf)) (leaves_in line.tree (slot_at key line.place))
    ∙ sum-same (λ leaf. sum_of (λ k. f (slice_set k place slot)) (leaf_keys lines (slice_set key line.place leaf))) (λ leaf. sum_of f (leaf_keys lines (slice_set (slice_set key place slot) line.place leaf))) (leaves_in line.tree (slot_at key line.place))
    (λ leaf. moved lines (slice_set key line.place leaf) place slot f elsewhere.1 ∙ ap (λ k. sum_of f (leaf_keys lines k)) (set_turned key place line.place slot leaf elsewhere.0))
    ∙ ap (λ s. sum_of (λ leaf. sum_of f (leaf_keys lines (slice_set (slice_set key place slot) line.place leaf))) (leaves_in line.tree s)) (sym (slot_elsewhere key place line.place slot elsewhere.0))
    ∙ sym (sum-flat f (λ leaf. leaf_keys lines (slice_set (slice_set key place slot) line.place leaf)) (leaves_in line.tree (slot_at (slice_set key place slot) line.place)))

sums : (kind : Kind) (lines : List Line) (key : List ℕ) (f : Numbers) → AreFine key lines → passes kind lines f key ≡ sum_of f (leaf_keys lines key)
sums kind [] key f fine = sym (plus-none (f key))
sums kind (line ∷ lines) key f fine =
    sums kind lines key (pass kind f line) fine.4
    ∙ same_under lines key line.place (slot_at key line.place) (pass kind f line) (λ k. sum_of (λ leaf. f (slice_set k line.place leaf)) (leaves_in line.tree (slot_at key line.place))) fine.3 refl (λ k at.
    pass_sum kind line f k fine.0 fine.1 (ap (is_among (slots_in line.tree)) at ∙ fine.2)
    ∙ ap (λ s. sum_of (λ leaf. f (slice_set k line.place leaf)) (leaves_in line.tree s)) at)
    ∙ sum-swap (λ k leaf. f (slice_set k line.place leaf)) (leaf_keys lines key) (leaves_in line.tree (slot_at key line.place))
    ∙ sum-same (λ leaf. sum_of (λ k. f (slice_set k line.place leaf)) (leaf_keys lines key)) (λ leaf. sum_of f (leaf_keys lines (slice_set key line.place leaf))) (leaves_in line.tree (slot_at key line.place)) (λ leaf. moved lines key line.place leaf f fine.3)
    ∙ sym (sum-flat f (λ leaf. leaf_keys lines (slice_set key line.place leaf)) (leaves_in line.tree (slot_at key line.place)))

-- ---- from the law's premises

value_at : (dimensions : List (List ℕ)) (key : List ℕ) (place : ℕ) → is_combination dimensions key ≡ true → place < length dimensions → is_among (get_or dimensions place []) (slot_at key place) ≡ true
value_at [] key place there within = absurd (omega (arith, within))
value_at (slots ∷ dimensions) [] place there within = cc
value_at (slots ∷ dimensions) (slot ∷ key) zero there within = (both_true (is_among slots slot) (is_combination dimensions key) there).0
value_at (slots ∷ dimensions) (slot ∷ key) (suc place) there within = value_at dimensions key place (both_true (is_among slots slot) (is_combination dimensions key) there).1 (omega (arith, within))

elsewhere_all : (place : ℕ) (lines : List Line) → ((j : ℕ) (d : Line) → j < length lines → place ≢ (get_or lines j d).place) → AreElsewhere place lines
elsewhere_all place [] each = tt
elsewhere_all place (line ∷ lines) each = (each 0 line (omega arith), elsewhere_all place lines (λ j d within. each (suc j) d (omega (arith, within))))

fine_all : (dimensions : List (List ℕ)) (key : List ℕ) (lines : List Line) → is_combination dimensions key ≡ true → AreSums dimensions lines → AreFine key lines
fine_all dimensions key [] there are = tt
fine_all dimensions key (line ∷ lines) there are = (
  are.sums 0 line (omega arith),
  are.hierarchies 0 line (omega arith),
  ap (λ (l : List ℕ). is_among l (slot_at key line.place)) (are.values 0 line (omega arith)) ∙ value_at dimensions key line.place there (are.places 0 line (omega arith)),
  elsewhere_all line.place lines (λ j d within. are.apart 0 (suc j) d (omega arith) (omega (arith, within))),
  fine_all dimensions key lines there (record {
    sums = λ k d within. are.sums (suc k) d (omega (arith, within));
    hierarchies = λ k d within. are.hierarchies (suc k) d (omega (arith, within));
    places = λ k d within. are.places (suc k) d (omega (arith, within));
    values = λ k d within. are.values (suc k) d (omega (arith, within));
    apart = λ i j d less within. are.apart (suc i) (suc j) d (omega (arith, less)) (omega (arith, within));
  }),
)

pub sums_law : (kind : Kind) (dimensions : List (List ℕ)) (lines : List Line) (cells : Cells) (key : List ℕ) → AreSums dimensions lines → IsTrue (is_combination dimensions key) →
    number_after kind dimensions lines cells key ≡ operated kind Sum (map (λ leaf_key. numbers_at dimensions cells leaf_key) (leaf_keys lines key))
sums_law kind dimensions lines cells key are there =
    sums kind lines key (numbers_at dimensions cells) (fine_all dimensions key lines there are)
    ∙ sym (sum-map (λ (z : Option ℤ). z) (numbers_at dimensions cells) (leaf_keys lines key))
    ∙ operated_sum kind (map (numbers_at dimensions cells) (leaf_keys lines key))
