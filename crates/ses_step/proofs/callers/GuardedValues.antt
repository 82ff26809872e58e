-- The values of a dimension are those that pass its test.
use Rattle.std.specs.Prelude.{ℕ, suc, ◌≡◌, ◌≢◌, ◌<◌, ◌≤◌, Bool, true, false, not, ◌&&◌, ◌||◌, ◌==◌, nat_le, List, [], ◌∷◌, length, slice_index_or}
use Rattle.std.specs.List.{All, AllPairs, list_all, list_any}
use Rattle.std.specs.Str.{bytes_eq}
use Rattle.std.proofs.Common.{◌∙◌, ap, refl, sym, arith}
use Rattle.std.proofs.lemmas.Bool.{and_parts, true≢false, false≢true, leb-true, le-leb, ltb-true, lt-ltb, ne_eqb}
use Rattle.std.proofs.lemmas.Bool.Decides.{Decides-eqb}
use Rattle.std.proofs.lemmas.List.Kept.{AllPairs-cons}
use Rattle.std.proofs.lemmas.List.Elements.{All-nil, All-cons}
use Rattle.std.proofs.lemmas.Slice.Eq.{bytes_eq-Decides}
use Rattle.aw_cell.specs.Text.{is_text}
use Rattle.aw_dim.specs.DimensionState.{Entry, DimensionState, IsDimension, IsValueName}
use Rattle.ses_step.specs.Maintaining.{all_apart, same_slot, same_name, is_named, is_below, is_dimension}

both : (a b : Bool) → a ≡ true → b ≡ true → (a && b) ≡ true
both a b one other = ap (λ (x : Bool). x && b) one ∙ other

neither : (a b : Bool) → (a || b) ≡ false → (a ≡ false) × (b ≡ false)
neither true b is = absurd (true≢false is)
neither false b is = (refl, is)

isn't : (b : Bool) → not b ≡ true → b ≡ false
isn't true is = absurd (false≢true is)
isn't false is = refl

module _ {X : Type 0} (R : X → X → Type 0) (same : X → X → Bool) where
  -- ---- from the test

  each_apart : ((x y : X) → same x y ≡ false → R x y) → (x : X) (xs : List X) → list_any (same x) xs ≡ false → All (R x) xs
  each_apart tells x [] none = All-nil (R x)
  each_apart tells x (y ∷ xs) none =
      let parts = neither (same x y) (list_any (same x) xs) none in
      All-cons (R x) y xs (tells x y parts.0) (each_apart tells x xs parts.1)

  pairs_apart : ((x y : X) → same x y ≡ false → R x y) → (xs : List X) → all_apart same xs ≡ true → AllPairs R xs
  pairs_apart tells [] is = λ i j d less within. absurd (omega (arith, within))
  pairs_apart tells (x ∷ xs) is =
      let parts = and_parts (not (list_any (same x) xs)) (all_apart same xs) is in
      AllPairs-cons R x xs (each_apart tells x xs (isn't (list_any (same x) xs) parts.0)) (pairs_apart tells xs parts.1)

  -- ---- to the test

  first_apart : ((x y : X) → R x y → same x y ≡ false) → (x : X) (xs : List X) → ((j : ℕ) (d : X) → j < length xs → R x (slice_index_or xs j d)) → list_any (same x) xs ≡ false
  first_apart tells x [] are = refl
  first_apart tells x (y ∷ xs) are =
      ap (λ (b : Bool). b || list_any (same x) xs) (tells x y (are 0 y (omega arith)))
      ∙ first_apart tells x xs (λ j d less. are (suc j) d (omega (arith, less)))

  all_pairs_apart : ((x y : X) → R x y → same x y ≡ false) → (xs : List X) → AllPairs R xs → all_apart same xs ≡ true
  all_pairs_apart tells [] pairs = refl
  all_pairs_apart tells (x ∷ xs) pairs =
      both (not (list_any (same x) xs)) (all_apart same xs)
      (ap not (first_apart tells x xs (λ j d less. pairs 0 (suc j) d (omega arith) (omega (arith, less)))))
      (all_pairs_apart tells xs (λ i j d less within. pairs (suc i) (suc j) d (omega (arith, less)) (omega (arith, within))))

module _ {X : Type 0} (P : X → Type 0) (test : X → Bool) where
  all_from : ((x : X) → test x ≡ true → P x) → (xs : List X) → list_all test xs ≡ true → All P xs
  all_from tells [] is = All-nil P
  all_from tells (x ∷ xs) is =
      let parts = and_parts (test x) (list_all test xs) is in
      All-cons P x xs (tells x parts.0) (all_from tells xs parts.1)

  all_to : ((x : X) → P x → test x ≡ true) → (xs : List X) → All P xs → list_all test xs ≡ true
  all_to tells [] are = refl
  all_to tells (x ∷ xs) are =
      both (test x) (list_all test xs) (tells x (are 0 x (omega arith))) (all_to tells xs (λ k d less. are (suc k) d (omega (arith, less))))

-- ---- what each test tells

slots-tell : (one other : Entry) → same_slot one other ≡ false → one.0 ≢ other.0
slots-tell one other is = λ same. absurd (true≢false (sym ((Decides-eqb one.0 other.0).1 same) ∙ is))

names-tell : (one other : Entry) → same_name one other ≡ false → one.1 ≢ other.1
names-tell one other is = λ same. absurd (true≢false (sym ((bytes_eq-Decides one.1 other.1).1 same) ∙ is))

slots-told : (one other : Entry) → one.0 ≢ other.0 → same_slot one other ≡ false
slots-told one other differ = ne_eqb one.0 other.0 differ

-- what isn't true is false
undecided : (b : Bool) → (b ≡ true → ⊥) → b ≡ false
undecided true never = absurd (never refl)
undecided false never = refl

names-told : (one other : Entry) → one.1 ≢ other.1 → same_name one other ≡ false
names-told one other differ = undecided (bytes_eq one.1 other.1) (λ same. differ ((bytes_eq-Decides one.1 other.1).0 same))

below-tells : (next : ℕ) (entry : Entry) → is_below next entry ≡ true → entry.0 < next
below-tells next entry is = ltb-true entry.0 next is

below-told : (next : ℕ) (entry : Entry) → entry.0 < next → is_below next entry ≡ true
below-told next entry less = lt-ltb entry.0 next less

filled : (name : List ℕ) → not (length name == 0) ≡ true → name ≢ []
filled [] is = λ same. absurd (false≢true is)
filled (b ∷ name) is = λ same. cc

is-filled : (name : List ℕ) → name ≢ [] → not (length name == 0) ≡ true
is-filled [] differs = absurd (differs refl)
is-filled (b ∷ name) differs = ap not (ne_eqb (length (b ∷ name)) 0 (λ same. absurd (omega (arith, same))))

named-tells : (entry : Entry) → is_named entry ≡ true → IsValueName entry.1
named-tells entry is =
    let parts = and_parts (is_text entry.1) (not (length entry.1 == 0)) is in
    (parts.0, filled entry.1 parts.1)

named-told : (entry : Entry) → IsValueName entry.1 → is_named entry ≡ true
named-told entry is = both (is_text entry.1) (not (length entry.1 == 0)) is.0 (is-filled entry.1 is.1)

most-told : (next : ℕ) → next ≤ 65536 → nat_le next 65536 ≡ true
most-told next most = le-leb next 65536 most

-- ---- both ways

pub passes : (values : DimensionState) → IsDimension values → is_dimension values ≡ true
passes values is =
    let entries = values.entries in
    let next = values.next in
    let slots = all_pairs_apart (λ (one other : Entry). one.0 ≢ other.0) same_slot slots-told entries is.slots_differ in
    let names = all_pairs_apart (λ (one other : Entry). one.1 ≢ other.1) same_name names-told entries is.names_differ in
    let below = all_to (λ (entry : Entry). entry.0 < next) (is_below next) (below-told next) entries is.slots_below in
    let named = all_to (λ (entry : Entry). IsValueName entry.1) is_named named-told entries is.names_are_texts in
    both (all_apart same_slot entries) _ slots (both (all_apart same_name entries) _ names (both (list_all (is_below next) entries) _ below (both (list_all is_named entries) (nat_le next 65536) named (most-told next is.next_most))))

pub tells : (values : DimensionState) → is_dimension values ≡ true → IsDimension values
tells values is =
    let entries = values.entries in
    let next = values.next in
    let first = and_parts (all_apart same_slot entries) (all_apart same_name entries && (list_all (is_below next) entries && (list_all is_named entries && nat_le next 65536))) is in
    let second = and_parts (all_apart same_name entries) (list_all (is_below next) entries && (list_all is_named entries && nat_le next 65536)) first.1 in
    let third = and_parts (list_all (is_below next) entries) (list_all is_named entries && nat_le next 65536) second.1 in
    let fourth = and_parts (list_all is_named entries) (nat_le next 65536) third.1 in
    record {
      slots_differ = pairs_apart (λ (one other : Entry). one.0 ≢ other.0) same_slot slots-tell entries first.0;
      names_differ = pairs_apart (λ (one other : Entry). one.1 ≢ other.1) same_name names-tell entries second.0;
      slots_below = all_from (λ (entry : Entry). entry.0 < next) (is_below next) (below-tells next) entries third.0;
      names_are_texts = all_from (λ (entry : Entry). IsValueName entry.1) is_named named-tells entries fourth.0;
      next_most = leb-true next 65536 fourth.1;
    }
