-- Two patches as one, change by change in the order of their keys.
use Rattle.std.specs.Prelude.{ℕ, ◌≡◌, ◌⊎◌, ◌+◌, ◌-◌, ◌<◌, ◌&&◌, Bool, true, false, List, [], ◌∷◌, ◌++◌, length, IsTrue}
use Rattle.std.specs.Ordering.{nat_cmp, is_lt, ordering_reverse}
use Rattle.std.specs.Cmp.Lexicographic.{nat_list_cmp_total}
use Rattle.std.specs.FinMap.{put, is_sorted, slice_cmp-IsAntisymmetric, nat_cmp-IsAntisymmetric}
use Rattle.std.specs.FinMap.Entries.{below_all, by_order}
use Rattle.std.specs.declared.cmp.Ordering.{Ordering}
use Rattle.std.specs.declared.cmp.Ordering.TheVariants.{Less, Equal, Greater}
use Rattle.std.proofs.Common.{◌∙◌, ap, ap₂, sym, refl, subst, inl, inr, drop, get_or, append_assoc, append-nil, add-one, take, length-drop, arith}
use Rattle.std.proofs.lemmas.List.{take_all}
use Rattle.std.proofs.Math.Seq.{drop-cons}
use Rattle.std.proofs.lemmas.Bool.{and_parts, and_from}
use Rattle.aw_cell.specs.declared.cell.Cell.{Cell}
use Rattle.aw_var.specs.CellMap.{Cells, by_slots}
use Rattle.aw_var.specs.CellPatch.{composed}
use Rattle.aw_var.specs.Laws.{IsRising}

abbrev pub Change : Type 0
Change = List ℕ × Cell

pub is-less : (order : Ordering) → is_lt order ≡ true → order ≡ Less
is-less Less is = refl
is-less Equal is = cc
is-less Greater is = cc

pub below-lower : (x y : List ℕ) (changes : Cells) → by_slots x y ≡ Less → IsTrue (below_all by_slots y changes) → IsTrue (below_all by_slots x changes)
below-lower x y [] lower below = refl
below-lower x y (change ∷ changes) lower below =
    let parts = and_parts (is_lt (by_slots y change.0)) (below_all by_slots y changes) below in
    let here : is_lt (by_slots x change.0) ≡ true = ap is_lt (nat_list_cmp_total.trans x y change.0 lower (is-less (by_slots y change.0) parts.0)) in
    and_from (is_lt (by_slots x change.0)) (below_all by_slots x changes) here (below-lower x y changes lower parts.1)

-- the first change stays first where its key is below those of the second patch
composed-front : (first : Change) (rest second : Cells) → IsTrue (below_all by_slots first.0 second) → composed (first ∷ rest) second ≡ first ∷ composed rest second
composed-front first rest [] below = refl
composed-front first rest (change ∷ second) below =
    let parts = and_parts (is_lt (by_slots first.0 change.0)) (below_all by_slots first.0 second) below in
    let above : by_slots change.0 first.0 ≡ Greater = nat_list_cmp_total.antisymm change.0 first.0 ∙ ap ordering_reverse (is-less (by_slots first.0 change.0) parts.0) in
    ap (λ order. composed (by_order order (change ∷ first ∷ rest) ((first.0, change.1) ∷ rest) (first ∷ put by_slots change.0 change.1 rest)) second) above
    ∙ composed-front first (put by_slots change.0 change.1 rest) second parts.1

module _ (one other : Change) (first second : Cells) (rising : IsRising (other ∷ second)) where
  parts : IsTrue (below_all by_slots other.0 second) × IsTrue (is_sorted by_slots second)
  parts = and_parts (below_all by_slots other.0 second) (is_sorted by_slots second) rising

  pub rising-rest : IsRising second
  rising-rest = parts.1

  pub merged-first : by_slots one.0 other.0 ≡ Less → composed (one ∷ first) (other ∷ second) ≡ one ∷ composed first (other ∷ second)
  merged-first lower =
      composed-front one first (other ∷ second) (and_from (is_lt (by_slots one.0 other.0)) (below_all by_slots one.0 second) (ap is_lt lower) (below-lower one.0 other.0 second lower parts.0))

  pub merged-second : by_slots one.0 other.0 ≡ Greater → composed (one ∷ first) (other ∷ second) ≡ other ∷ composed (one ∷ first) second
  merged-second higher =
      let lower : by_slots other.0 one.0 ≡ Less = nat_list_cmp_total.antisymm other.0 one.0 ∙ ap ordering_reverse higher in
      ap (λ order. composed (by_order order (other ∷ one ∷ first) ((one.0, other.1) ∷ first) (one ∷ put by_slots other.0 other.1 first)) second) lower
      ∙ composed-front other (one ∷ first) second parts.0

  pub merged-both : by_slots one.0 other.0 ≡ Equal → composed (one ∷ first) (other ∷ second) ≡ other ∷ composed first second
  merged-both tied =
      let equal : by_slots other.0 one.0 ≡ Equal = nat_list_cmp_total.antisymm other.0 one.0 ∙ ap ordering_reverse tied in
      let same : other.0 ≡ one.0 = slice_cmp-IsAntisymmetric nat_cmp-IsAntisymmetric other.0 one.0 equal in
      ap (λ order. composed (by_order order (other ∷ one ∷ first) ((one.0, other.1) ∷ first) (one ∷ put by_slots other.0 other.1 first)) second) equal
      ∙ ap (λ (key : List ℕ). let change : Change = (key, other.1) in composed (change ∷ first) second) (sym same)
      ∙ composed-front other first second parts.0

-- a patch behind none is the patch
pub composed-none : (second : Cells) → IsRising second → composed [] second ≡ second
composed-none [] rising = refl
composed-none (other ∷ second) rising =
    let parts = and_parts (below_all by_slots other.0 second) (is_sorted by_slots second) rising in
    composed-front other [] second parts.0 ∙ ap (λ (rest : Cells). other ∷ rest) (composed-none second parts.1)

-- what stands at a place, and what stands behind it
pub drop-here : {A : Type 0} (xs : List A) (i next : ℕ) (x : A) → i + 1 ≡ next → i < length xs → x ≡ get_or xs i x → drop i xs ≡ x ∷ drop next xs
drop-here {A} xs i next x after within here =
    drop-cons xs i x within ∙ ap₂ (λ (y : A) (ys : List A). y ∷ ys) (sym here) (ap (λ k. drop k xs) (sym (add-one i) ∙ after))

-- The changes that are merged so far, and what is left of both patches.
module _ (done all first second : Cells) (i j i_next j_next : ℕ) (one other : Change) (in_first : drop i first ≡ one ∷ drop i_next first) (in_second : drop j second ≡ other ∷ drop j_next second) (rising : IsRising (drop j second)) (same : done ++ composed (drop i first) (drop j second) ≡ all) where
  rising-here : IsRising (other ∷ drop j_next second)
  rising-here = subst IsRising in_second rising

  same-here : done ++ composed (one ∷ drop i_next first) (other ∷ drop j_next second) ≡ all
  same-here = ap₂ (λ (f s : Cells). done ++ composed f s) (sym in_first) (sym in_second) ∙ same

  pub rising-next : IsRising (drop j_next second)
  rising-next = rising-rest one other first (drop j_next second) rising-here

  pub first-step : by_slots one.0 other.0 ≡ Less → (done ++ one ∷ []) ++ composed (drop i_next first) (drop j second) ≡ all
  first-step lower =
      ap (λ (s : Cells). (done ++ one ∷ []) ++ composed (drop i_next first) s) in_second
      ∙ append_assoc done (one ∷ []) (composed (drop i_next first) (other ∷ drop j_next second))
      ∙ ap (λ (rest : Cells). done ++ rest) (sym (merged-first one other (drop i_next first) (drop j_next second) rising-here lower)) ∙ same-here

  pub second-step : by_slots one.0 other.0 ≡ Greater → (done ++ other ∷ []) ++ composed (drop i first) (drop j_next second) ≡ all
  second-step higher =
      ap (λ (f : Cells). (done ++ other ∷ []) ++ composed f (drop j_next second)) in_first
      ∙ append_assoc done (other ∷ []) (composed (one ∷ drop i_next first) (drop j_next second))
      ∙ ap (λ (rest : Cells). done ++ rest) (sym (merged-second one other (drop i_next first) (drop j_next second) rising-here higher)) ∙ same-here

  pub both-step : by_slots one.0 other.0 ≡ Equal → (done ++ other ∷ []) ++ composed (drop i_next first) (drop j_next second) ≡ all
  both-step tied =
      append_assoc done (other ∷ []) (composed (drop i_next first) (drop j_next second))
      ∙ ap (λ (rest : Cells). done ++ rest) (sym (merged-both one other (drop i_next first) (drop j_next second) rising-here tied)) ∙ same-here

-- where one of the patches has come to its end, the other stays
pub merged-end : (done all first second : Cells) → IsRising second → done ++ composed first second ≡ all → (first ≡ []) ⊎ (second ≡ []) → (done ++ first) ++ second ≡ all
merged-end done all first second rising same (inl none) =
    ap (λ (f : Cells). (done ++ f) ++ second) none ∙ ap (λ (d : Cells). d ++ second) (append-nil done)
    ∙ ap (λ (rest : Cells). done ++ rest) (sym (ap (λ (f : Cells). composed f second) none ∙ composed-none second rising)) ∙ same
merged-end done all first second rising same (inr none) =
    ap (λ (s : Cells). (done ++ first) ++ s) none ∙ append-nil (done ++ first)
    ∙ ap (λ (s : Cells). done ++ composed first s) (sym none) ∙ same

-- all that stands from a place on
pub rest-from : {A : Type 0} (xs : List A) (i : ℕ) → take (length xs - i) (drop i xs) ≡ drop i xs
rest-from xs i = take_all (length xs - i) (drop i xs) (omega (arith, length-drop i xs))
