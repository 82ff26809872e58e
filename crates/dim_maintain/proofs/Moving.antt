-- Values that stand behind all others, and the place among these.
use Rattle.std.proofs.Common.{ℕ, ◌≡◌, ◌+◌, ◌≤◌, List, ◌++◌, length, take, drop, None, ◌∙◌, ap, arith}
use Rattle.std.proofs.lemmas.List.{length-append, take-append-le, take_all}
use Rattle.aw_dim.specs.DimensionState.{Entry, DimensionState, IsDimension}
use Rattle.dml_tree.specs.declared.statement.Place.{Place}
use Rattle.dim_maintain.specs.Maintained.{others, in_order, count_at, moved}
use Rattle.dim_maintain.specs.Causes.{moved_cause}
use Rattle.dim_maintain.proofs.Behind.{behind_all}
use Rattle.dim_maintain.proofs.Checked.{names_and_places, old_name}
use Rattle.dim_maintain.proofs.Known.{length-in_order, place_among_others}

module _ (values : DimensionState) (valid : IsDimension values) (names : List (List ℕ)) (place : Place) (accepted : moved_cause values names place ≡ None) (made : DimensionState) (is : made ≡ behind_all values names) where
  abbrev rest : List Entry
  rest = others names values.entries

  abbrev these : List Entry
  these = in_order names values.entries

  pub these_len : length these ≡ length names
  these_len = length-in_order values valid names (λ k name here. (old_name values names (names_and_places values names place accepted).0 k name here).known)

  pub made_is : made.entries ≡ rest ++ these
  made_is = ap (λ (m : DimensionState). m.entries) is

  pub made_len : length made.entries ≡ length rest + length names
  made_len = ap (λ (xs : List Entry). length xs) made_is ∙ length-append rest these ∙ ap (λ (n : ℕ). length rest + n) these_len

  pub first_are : (count : ℕ) → count ≡ length rest → take count made.entries ≡ rest
  first_are count e = ap (take count) made_is ∙ take-append-le count rest these (omega (arith, e)) ∙ take_all count rest (omega (arith, e))

  pub within : (count : ℕ) → count ≡ length rest → count_at place (take count made.entries) ≤ count
  within count e =
      let known = names_and_places values names place accepted in
      let most = place_among_others values names place known.1 known.2 in
      let same : count_at place (take count made.entries) ≡ count_at place rest = ap (count_at place) (first_are count e) in
      omega (arith, most, same, e)

  pub moved_made : (count at : ℕ) (new : DimensionState) → count ≡ length rest → at ≡ count_at place (take count made.entries) → new ≡ record { entries = take at rest ++ these ++ drop at rest; next = made.next } → new ≡ moved values names place
  moved_made count at new e f so =
      let here : at ≡ count_at place rest = f ∙ ap (count_at place) (first_are count e) in
      let next : made.next ≡ values.next = ap (λ (m : DimensionState). m.next) is in
      so ∙ (λ i. record { entries = take (here i) rest ++ these ++ drop (here i) rest; next = next i })
