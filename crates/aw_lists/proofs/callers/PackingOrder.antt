-- The order of the numbers is the order of the coordinates.
use Rattle.std.proofs.Common.{ℕ, ◌≡◌, ◌+◌, ◌*◌, ◌^◌, ◌<◌, List, [], ◌∷◌, zero, suc, length, take, get_or, arith, ap, sym, ◌∙◌, refl, subst, Ordering, Less, Equal, Greater}
use Rattle.std.specs.Cmp.{nat_cmp_is}
use Rattle.std.specs.Cmp.Lexicographic.{slice_cmp}
use Rattle.std.specs.Ordering.{MatchOrdering, nat_cmp, ordering_then}
use Rattle.std.proofs.lemmas.Cmp.{ranked}
use Rattle.std.proofs.lemmas.Map.Lookups.{exact_bytes}
use Rattle.std.proofs.lemmas.Nat.{mul-add-lt}
use Rattle.aw_lists.specs.Coord.{packed, AreSlots, ComesBefore, PackingKeepsOrder}
use Rattle.aw_lists.proofs.callers.Packing.{packed-below, AreSlots-rest}

-- what a comparison of two numbers says
abbrev Compares : Ordering → ℕ → ℕ → Type 0
Compares answer one other = MatchOrdering answer (one < other) (one ≡ other) (other < one)

-- of two numbers in a base the higher digits decide, and then the lower ones
higher_first : (x y low other power : ℕ) (first second : Ordering) → low < power → other < power → Compares first x y → Compares second low other →
    Compares (ordering_then first second) (x * power + low) (y * power + other)
higher_first x y low other power Less second below above lower _ = omega (arith, mul-add-lt x power low y lower below)
higher_first x y low other power Greater second below above higher _ = omega (arith, mul-add-lt y power other x higher above)
higher_first x y low other power Equal Less below above same lower = omega (arith, ap (λ n. n * power) same, lower)
higher_first x y low other power Equal Equal below above same level = omega (arith, ap (λ n. n * power) same, level)
higher_first x y low other power Equal Greater below above same higher = omega (arith, ap (λ n. n * power) same, higher)

-- the numbers compare as the slots do
pub nat_cmp-packed : (one other : List ℕ) → AreSlots one → AreSlots other → length one ≡ length other → slice_cmp nat_cmp one other ≡ nat_cmp (packed one) (packed other)
nat_cmp-packed [] [] each every long = refl
nat_cmp-packed [] (y ∷ ys) each every long = absurd (omega arith)
nat_cmp-packed (x ∷ xs) [] each every long = absurd (omega arith)
nat_cmp-packed (x ∷ xs) (y ∷ ys) each every long =
    let same : length xs ≡ length ys = omega arith in
    let below = packed-below xs (AreSlots-rest x xs each) in
    let above : packed ys < 65536 ^ length xs = subst (λ n. packed ys < 65536 ^ n) (sym same) (packed-below ys (AreSlots-rest y ys every)) in
    let rest = nat_cmp-packed xs ys (AreSlots-rest x xs each) (AreSlots-rest y ys every) same in
    let decided = higher_first x y (packed xs) (packed ys) (65536 ^ length xs) (nat_cmp x y) (nat_cmp (packed xs) (packed ys)) below above (ranked x y _ refl) (ranked (packed xs) (packed ys) _ refl) in
    ap (λ o. ordering_then (nat_cmp x y) o) rest
    ∙ nat_cmp_is (x * 65536 ^ length xs + packed xs) (y * 65536 ^ length xs + packed ys) _ decided
    ∙ ap (λ n. nat_cmp (x * 65536 ^ length xs + packed xs) (y * 65536 ^ n + packed ys)) same

later : (place x y : ℕ) (xs ys : List ℕ) → x ≡ y → take place xs ≡ take place ys → take (suc place) (x ∷ xs) ≡ take (suc place) (y ∷ ys)
later place x y xs ys same rest = cc

by-first : (x y : ℕ) (xs ys : List ℕ) (first : Ordering) → Compares first x y → (slice_cmp nat_cmp xs ys ≡ Less → ComesBefore xs ys) →
    ordering_then first (slice_cmp nat_cmp xs ys) ≡ Less → ComesBefore (x ∷ xs) (y ∷ ys)
by-first x y xs ys Less lower rest less = record { place = 0; within = omega arith; same_before = refl; lower = lower }
by-first x y xs ys Greater higher rest less = cc
by-first x y xs ys Equal same rest less =
    let before = rest less in
    record { place = suc before.place; within = omega (arith, before.within); same_before = later before.place x y xs ys same before.same_before; lower = before.lower }

-- the coordinate that comes before the other is the lesser one
less-ComesBefore : (one other : List ℕ) → length one ≡ length other → slice_cmp nat_cmp one other ≡ Less → ComesBefore one other
less-ComesBefore [] [] long less = cc
less-ComesBefore [] (y ∷ ys) long less = absurd (omega arith)
less-ComesBefore (x ∷ xs) [] long less = absurd (omega arith)
less-ComesBefore (x ∷ xs) (y ∷ ys) long less = by-first x y xs ys (nat_cmp x y) (ranked x y _ refl) (less-ComesBefore xs ys (omega arith)) less

pub ComesBefore-less : (one other : List ℕ) (place : ℕ) → length one ≡ length other → place < length one → take place one ≡ take place other →
    get_or one place 0 < get_or other place 0 → slice_cmp nat_cmp one other ≡ Less
ComesBefore-less [] other place long within same lower = absurd (omega arith)
ComesBefore-less (x ∷ xs) [] place long within same lower = absurd (omega arith)
ComesBefore-less (x ∷ xs) (y ∷ ys) zero long within same lower = ap (λ o. ordering_then o (slice_cmp nat_cmp xs ys)) (sym (nat_cmp_is x y Less lower))
ComesBefore-less (x ∷ xs) (y ∷ ys) (suc place) long within same lower =
    let heads : x ≡ y = cc in
    let tails : take place xs ≡ take place ys = cc in
    ap (λ o. ordering_then o (slice_cmp nat_cmp xs ys)) (sym (nat_cmp_is x y Equal heads)) ∙ ComesBefore-less xs ys place (omega arith) (omega arith) tails lower

below : (one other : List ℕ) → slice_cmp nat_cmp one other ≡ nat_cmp (packed one) (packed other) → slice_cmp nat_cmp one other ≡ Less → packed one < packed other
below one other compared less =
    let answer : nat_cmp (packed one) (packed other) ≡ Less = sym compared ∙ less in
    subst (λ o. Compares o (packed one) (packed other)) answer (ranked (packed one) (packed other) _ refl)

pub packs_in_order : PackingKeepsOrder
packs_in_order one other each every long = record {
  distinct = λ e. exact_bytes one other (nat_cmp-packed one other each every long ∙ sym (nat_cmp_is _ _ Equal e));
  ordered = (λ lower. less-ComesBefore one other long (nat_cmp-packed one other each every long ∙ sym (nat_cmp_is _ _ Less lower)), λ before. below one other (nat_cmp-packed one other each every long) (ComesBefore-less one other before.place long before.within before.same_before before.lower));
  compared = sym (nat_cmp-packed one other each every long);
}
