-- The order of names: one of two stands before the other, and none before itself.
use Rattle.std.proofs.Common.{ℕ, Bool, true, false, ◌≡◌, ◌≢◌, List, refl, sym, ◌∙◌, ap, bytes_eq}
use Rattle.std.specs.Ordering.{nat_cmp, is_lt, is_eq, ordering_reverse}
use Rattle.std.specs.declared.cmp.Ordering.{Ordering}
use Rattle.std.specs.declared.cmp.Ordering.TheVariants.{Less, Equal, Greater}
use Rattle.std.specs.Cmp.Lexicographic.{slice_cmp}
use Rattle.std.proofs.lemmas.Cmp.{nat_list_cmp_total}
use Rattle.std.proofs.lemmas.Map.Text.{is_eq-slice_cmp}
use Rattle.std.proofs.lemmas.Slice.Eq.{bytes_eq-Decides}
use Rattle.aw_dim.specs.inside.Index.{precedes}

less_from : (order : Ordering) → is_lt order ≡ true → order ≡ Less
less_from Less h = refl
less_from Equal h = absurd cc
less_from Greater h = absurd cc

pub precedes-trans : (one other third : List ℕ) → precedes one other ≡ true → precedes other third ≡ true → precedes one third ≡ true
precedes-trans one other third h g =
    ap is_lt (nat_list_cmp_total.trans one other third (less_from (slice_cmp nat_cmp one other) h) (less_from (slice_cmp nat_cmp other third) g))

turned_apart : (order : Ordering) → order ≡ Less → order ≡ ordering_reverse order → ⊥
turned_apart Less h g = cc
turned_apart Equal h g = cc
turned_apart Greater h g = cc

pub precedes-irrefl : (name : List ℕ) → precedes name name ≡ true → ⊥
precedes-irrefl name h =
    turned_apart (slice_cmp nat_cmp name name) (less_from (slice_cmp nat_cmp name name) h) (nat_list_cmp_total.antisymm name name)

pub differ : (one other : List ℕ) → precedes one other ≡ true → one ≢ other
differ one other h e = precedes-irrefl other (rw e at h)

turned : (one other : List ℕ) (order : Ordering) → slice_cmp nat_cmp one other ≡ order → is_lt order ≡ false → one ≢ other → is_lt (ordering_reverse order) ≡ true
turned one other Less is h ne = absurd cc
turned one other Equal is h ne = absurd (ne ((bytes_eq-Decides one other).0 (sym (is_eq-slice_cmp one other) ∙ ap is_eq is)))
turned one other Greater is h ne = refl

pub precedes-total : (one other : List ℕ) → precedes one other ≡ false → one ≢ other → precedes other one ≡ true
precedes-total one other h ne =
    ap is_lt (nat_list_cmp_total.antisymm other one) ∙ turned one other (slice_cmp nat_cmp one other) refl h ne
