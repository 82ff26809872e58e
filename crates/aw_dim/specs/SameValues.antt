-- `same_values` tells whether two values of dimensions are one.
use Rattle.std.specs.Prelude.{Bool, ◌≡◌, ◌&&◌, nat_eq, refl}
use Rattle.std.specs.Bool.{Decides}
use Rattle.std.specs.Cmp.{IsEquivalence, IsPartialEquivalence, partial_equiv_from_equiv, decided}
use Rattle.std.specs.Cmp.Lexicographic.{pointwise, pointwise_decides}
use Rattle.std.specs.Str.{bytes_eq}
use Rattle.std.proofs.Common.{ap}
use Rattle.std.proofs.lemmas.Bool.Decides.{Decides-eqb, Decides-and}
use Rattle.std.proofs.lemmas.Slice.Eq.{bytes_eq-Decides}
use Rattle.aw_dim.specs.DimensionState.{Entry, DimensionState}

-- whether two values have one slot and one name
abbrev pub same_entry : Entry → Entry → Bool
same_entry one other = nat_eq one.0 other.0 && bytes_eq one.1 other.1

abbrev pub same_values : DimensionState → DimensionState → Bool
same_values one other = nat_eq one.next other.next && pointwise same_entry one.entries other.entries

pub same_entry-Decides : (one other : Entry) → Decides (same_entry one other) (one ≡ other)
same_entry-Decides one other =
    let both = Decides-and (nat_eq one.0 other.0) (bytes_eq one.1 other.1) (Decides-eqb one.0 other.0) (bytes_eq-Decides one.1 other.1) in
    (λ e. let parts = both.0 e in let same : one ≡ other = λ i. (parts.0 i, parts.1 i) in same, λ e. both.1 (ap (λ (x : Entry). x.0) e, ap (λ (x : Entry). x.1) e))

pub same_values-Decides : (one other : DimensionState) → Decides (same_values one other) (one ≡ other)
same_values-Decides one other =
    let both = Decides-and (nat_eq one.next other.next) (pointwise same_entry one.entries other.entries) (Decides-eqb one.next other.next) (pointwise_decides same_entry-Decides one.entries other.entries) in
    (λ e. let parts = both.0 e in let same : one ≡ other = λ i. record { entries = parts.1 i; next = parts.0 i } in same, λ e. both.1 (ap (λ (x : DimensionState). x.next) e, ap (λ (x : DimensionState). x.entries) e))

pub same_values_equivalence : IsEquivalence same_values
same_values_equivalence = decided same_values same_values-Decides

pub same_values_partial_equivalence : IsPartialEquivalence same_values
same_values_partial_equivalence = partial_equiv_from_equiv same_values_equivalence
