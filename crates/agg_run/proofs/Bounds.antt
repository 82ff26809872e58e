-- How great numbers become: after a line at most as many times as great as the line's dimension has values.
use Rattle.std.proofs.Common.{◌≡◌, ◌≢◌, ℕ, suc, ◌+◌, ◌*◌, ◌^◌, ◌<◌, ◌≤◌, max, ℤ, pos, ◌+ℤ◌, unsigned_abs, cond, true, false, List, [], ◌∷◌, length, map, fold, slice_set, Option, Some, None, refl, sym, subst, ◌∙◌, arith}
use Rattle.std.specs.Prelude.{⊤, IfSome}
use Rattle.std.specs.Int.{int_min, int_max}
use Rattle.std.proofs.lemmas.Int.{ints, clamps, unsigned_abs-mul}
use Rattle.std.proofs.lemmas.Nat.{mul-le, div_below}
use Rattle.std.proofs.Math.ListN.{length-set}
use Rattle.aw_cell.specs.declared.cell.Kind.{Kind}
use Rattle.aw_cell.specs.declared.cell.Kind.TheVariants as kinds
use Rattle.aw_cell.specs.declared.operator.Operator.{Operator}
use Rattle.aw_cell.specs.declared.operator.Operator.TheVariants.{Sum, Min, Max, Average, Count, Spread}
use Rattle.aw_cell.specs.Rounding.{rounded}
use Rattle.aw_rel.specs.Hierarchy.{is_leaf, leaves_in}
use Rattle.agg_run.specs.Numbers.{one_of, present, total, made_of, operated, operated_present}
use Rattle.agg_run.specs.Aggregates.{Line, Numbers, slot_at, pass, at_leaves}
use Rattle.agg_run.specs.inside.Passes.{AreBounded, AreSmall, HaveRoom, room_of}
use Rattle.agg_run.proofs.Operating.{AreWithin, present_most}
use Rattle.agg_run.proofs.Leaves.{leaves_most}
use Rattle.agg_run.proofs.Means.{size_rounded}

min_small : (a b : ℤ) (n : ℕ) → unsigned_abs a ≤ n → unsigned_abs b ≤ n → unsigned_abs (int_min a b) ≤ n
min_small a b n p q = omega (arith, ints, clamps, p, q)

max_small : (a b : ℤ) (n : ℕ) → unsigned_abs a ≤ n → unsigned_abs b ≤ n → unsigned_abs (int_max a b) ≤ n
max_small a b n p q = omega (arith, ints, clamps, p, q)

sum_small : (a b : ℤ) (m n : ℕ) → unsigned_abs a ≤ m → unsigned_abs b ≤ n → unsigned_abs (a +ℤ b) ≤ m + n
sum_small a b m n p q = omega (arith, ints, p, q)

fold_small : (f : ℤ → ℤ → ℤ) (n : ℕ) → ((a b : ℤ) → unsigned_abs a ≤ n → unsigned_abs b ≤ n → unsigned_abs (f a b) ≤ n) → (a : ℤ) (zs : List ℤ) → unsigned_abs a ≤ n → AreWithin n zs → unsigned_abs (fold f a zs) ≤ n
fold_small f n keeps a [] p each = p
fold_small f n keeps a (z ∷ zs) p each = fold_small f n keeps (f a z) zs (keeps a z p each.0) each.1

sums_small : (n m : ℕ) (a : ℤ) (zs : List ℤ) → unsigned_abs a ≤ m → AreWithin n zs → unsigned_abs (fold ◌+ℤ◌ a zs) ≤ m + length zs * n
sums_small n m a [] p each = omega (arith, p)
sums_small n m a (z ∷ zs) p each =
    let r = sums_small n (m + n) (a +ℤ z) zs (sum_small a z m n p each.0) each.1 in
    let size : suc (length zs) * n ≡ length zs * n + n = omega arith in
    omega (arith, r, size)

total_small : (n : ℕ) (zs : List ℤ) → AreWithin n zs → unsigned_abs (total zs) ≤ length zs * n
total_small n zs each = let r = sums_small n 0 (pos 0) zs (omega arith) each in omega (arith, r)

rounded_small : (n q : ℕ) (a : ℤ) → 0 < q → unsigned_abs a ≤ q * n → unsigned_abs (rounded a (pos q)) ≤ n
rounded_small n q a some p =
    let room : 2 * unsigned_abs a + q < (n + 1) * (2 * q) = omega (arith, p, some) in
    let low = div_below (2 * unsigned_abs a + q) (2 * q) (n + 1) (omega (arith, some)) room in
    let size = size_rounded a q in
    omega (arith, low, size)

one_small : (kind : Kind) → unsigned_abs (one_of kind) ≤ 10000
one_small kinds.Num = omega arith
one_small kinds.Int = omega arith
one_small kinds.Text = omega arith
one_small kinds.Bool = omega arith
one_small kinds.Slot = omega arith

one_more : (n count : ℕ) → n ≤ suc count * n
one_more n count = omega arith

made_small : (kind : Kind) (o : Operator) (n : ℕ) (z : ℤ) (zs : List ℤ) → 10000 ≤ n → AreWithin n (z ∷ zs) → unsigned_abs (made_of kind o z zs) ≤ length (z ∷ zs) * n
made_small kind Sum n z zs great each = total_small n (z ∷ zs) each
made_small kind Min n z zs great each =
    let one = fold_small int_min n (λ a b p q. min_small a b n p q) z zs each.0 each.1 in
    let more = one_more n (length zs) in omega (arith, one, more)
made_small kind Max n z zs great each =
    let one = fold_small int_max n (λ a b p q. max_small a b n p q) z zs each.0 each.1 in
    let more = one_more n (length zs) in omega (arith, one, more)
made_small kind Average n z zs great each =
    let one = rounded_small n (length (z ∷ zs)) (total (z ∷ zs)) (omega arith) (total_small n (z ∷ zs) each) in
    let more = one_more n (length zs) in omega (arith, one, more)
made_small kind Count n z zs great each =
    let size = unsigned_abs-mul (one_of kind) (pos (length (z ∷ zs))) in
    let small : unsigned_abs (one_of kind) ≤ n = let s = one_small kind in omega (arith, s, great) in
    let times = mul-le (unsigned_abs (one_of kind)) (length (z ∷ zs)) n (length (z ∷ zs)) small (omega arith) in
    omega (arith, size, times)
made_small kind (Spread way) n z zs great each = total_small n (z ∷ zs) each

-- numbers that may be NA
abbrev pub AreAllWithin : ℕ → List (Option ℤ) → Type 0
AreAllWithin n [] = ⊤
AreAllWithin n (z ∷ zs) = IfSome z (λ x. (unsigned_abs x ≤ n) × (10000 ≤ n)) × AreAllWithin n zs

present_small : (n : ℕ) (zs : List (Option ℤ)) → AreAllWithin n zs → AreWithin n (present zs) × (present zs ≢ [] → 10000 ≤ n)
present_small n [] each = (tt, λ some. absurd (some refl))
present_small n (None ∷ zs) each = present_small n zs each.1
present_small n (Some z ∷ zs) each = ((each.0.0, (present_small n zs each.1).0), λ _. each.0.1)

operated_small : (kind : Kind) (o : Operator) (n count : ℕ) (zs : List (Option ℤ)) → AreAllWithin n zs → length zs ≤ count → IfSome (operated kind o zs) (λ x. (unsigned_abs x ≤ n * max 1 count) × (10000 ≤ n * max 1 count))
operated_small kind o n count zs each few =
    let p = present_small n zs each in
    let most = present_most zs in
    cases (present zs) p.0 p.1 (omega (arith, most, few))
  where
    cases : (ps : List ℤ) → AreWithin n ps → (ps ≢ [] → 10000 ≤ n) → length ps ≤ count → IfSome (operated_present kind o ps) (λ x. (unsigned_abs x ≤ n * max 1 count) × (10000 ≤ n * max 1 count))
    cases [] within great few = tt
    cases (z ∷ zs) within great few =
        let g : 10000 ≤ n = great (λ e. cc) in
        let one = made_small kind o n z zs g within in
        let times = mul-le (length (z ∷ zs)) n (max 1 count) n (omega (arith, few)) (omega arith) in
        let more = mul-le 1 n (max 1 count) n (omega arith) (omega arith) in
        (omega (arith, one, times), omega (arith, g, more))

at_leaves_small : (n slots : ℕ) (line : Line) (numbers : Numbers) (key : List ℕ) (leaves : List ℕ) → length key ≡ slots → AreBounded slots n numbers → AreAllWithin n (map (λ leaf. numbers (slice_set key line.place leaf)) leaves)
at_leaves_small n slots line numbers key [] long each = tt
at_leaves_small n slots line numbers key (leaf ∷ leaves) long each =
    (each (slice_set key line.place leaf) (length-set key line.place leaf ∙ long), at_leaves_small n slots line numbers key leaves long each)

pub pass_bounded : (kind : Kind) (slots n : ℕ) (line : Line) (numbers : Numbers) → AreBounded slots n numbers → AreBounded slots (n * max 1 (length line.tree)) (pass kind numbers line)
pass_bounded kind slots n line numbers each key long =
    elim (is_leaf line.tree (slot_at key line.place)) as (λ b. IfSome (cond b (numbers key) (operated kind line.operator (at_leaves line numbers key))) (λ x. (unsigned_abs x ≤ n * max 1 (length line.tree)) × (10000 ≤ n * max 1 (length line.tree)))) [
      | true ↦ wider (numbers key) (each key long)
      | false ↦ operated_small kind line.operator n (length line.tree) (at_leaves line numbers key) (at_leaves_small n slots line numbers key (leaves_in line.tree (slot_at key line.place)) long each) (leaves_most line.tree numbers key line.place (slot_at key line.place))
    ]
  where
    wider : (z : Option ℤ) → IfSome z (λ x. (unsigned_abs x ≤ n) × (10000 ≤ n)) → IfSome z (λ x. (unsigned_abs x ≤ n * max 1 (length line.tree)) × (10000 ≤ n * max 1 (length line.tree)))
    wider None h = tt
    wider (Some z) h =
        let more = mul-le n 1 n (max 1 (length line.tree)) (omega arith) (omega arith) in
        (omega (arith, h.0, more), omega (arith, h.1, more))

pub room_least : (lines : List Line) → 1 ≤ room_of lines
room_least [] = omega arith
room_least (line ∷ lines) =
    let r = room_least lines in
    let more = mul-le 1 1 (max 1 (length line.tree)) (room_of lines) (omega arith) r in
    omega (arith, more)

-- one line is done
pub room_after : (kind : Kind) (slots : ℕ) (line : Line) (lines : List Line) (numbers after : Numbers) → ((key : List ℕ) → length key ≡ slots → after key ≡ pass kind numbers line key) → HaveRoom slots (line ∷ lines) numbers → HaveRoom slots lines after
room_after kind slots line lines numbers after same has = record {
  bound = has.bound * max 1 (length line.tree);
  each = λ key long. subst (λ z. IfSome z (λ x. (unsigned_abs x ≤ has.bound * max 1 (length line.tree)) × (10000 ≤ has.bound * max 1 (length line.tree)))) (sym (same key long)) (pass_bounded kind slots has.bound line numbers has.each key long);
  room = let r = has.room in let is = grouped has.bound (max 1 (length line.tree)) (room_of lines) in omega (arith, r, is);
}
  where
    grouped : (a b c : ℕ) → (a * b) * c ≡ a * (b * c)
    grouped a b c = omega arith

pub room_small : (slots values : ℕ) (lines : List Line) (numbers : Numbers) → values ≤ 65536 → HaveRoom slots lines numbers → AreSmall slots values numbers
room_small slots values lines numbers few has = record {
  bound = has.bound;
  each = λ key long. first (numbers key) (has.each key long);
  fits =
      let least = room_least lines in
      let more = mul-le has.bound 1 has.bound (room_of lines) (omega arith) least in
      let r = has.room in
      let one : has.bound ≤ 10 ^ 18 * 4194304 = omega (arith, more, r) in
      let all = mul-le values has.bound 65536 (10 ^ 18 * 4194304) few one in
      omega (arith, all);
}
  where
    first : (z : Option ℤ) → IfSome z (λ x. (unsigned_abs x ≤ has.bound) × (10000 ≤ has.bound)) → IfSome z (λ x. unsigned_abs x ≤ has.bound)
    first None h = tt
    first (Some z) h = h.0
