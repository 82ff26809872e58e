-- Depths of values: a child is one step deeper than its parent.
use Rattle.std.proofs.Common.{◌≡◌, ℕ, suc, zero, ◌+◌, ◌≤◌, ◌==◌, cond, true, false, [], ◌∷◌, length, Some, None, refl, sym, ap, ◌∙◌, arith}
use Rattle.std.specs.Option.{option_map}
use Rattle.aw_rel.specs.Hierarchy.{Tree, parent_in, up, is_among, slots_in, IsHierarchy}
use Rattle.aw_rel.proofs.CallerLemmas.{or_left, or_right, up-add}
use Rattle.aw_rel.proofs.CallerLemmas.{no_far}
use Rattle.std.proofs.lemmas.Bool.Decides.{Decides-eqb}
use Rattle.aw_rel.proofs.CallerLemmas.{same_number}
use Rattle.agg_run.specs.inside.Levels.{depth_within, depth_in, one_more}

pub depth_step : (tree : Tree) (n m value parent : ℕ) → n ≡ suc m → parent_in tree value ≡ Some parent → depth_within tree n value ≡ suc (depth_within tree m parent)
depth_step tree n m value parent is has = ap (λ k. depth_within tree k value) is ∙ ap (λ o. one_more (option_map (λ p. depth_within tree m p) o)) has

-- where the steps end, more room changes nothing
depth_stable : (tree : Tree) (m x : ℕ) → up tree m x ≡ None → depth_within tree (suc m) x ≡ depth_within tree m x
depth_stable tree zero x none = cc
depth_stable tree (suc m) x none =
    elim (parent_in tree x) as (λ p. parent_in tree x ≡ p → one_more (option_map (λ q. depth_within tree (suc m) q) p) ≡ one_more (option_map (λ q. depth_within tree m q) p)) [
      | None ↦ λ _. refl
      | Some p ↦ λ has.
          let more : m + 1 ≡ suc m = omega arith in
          ap suc (depth_stable tree m p (sym (up-add tree m 1 x p has) ∙ ap (λ n. up tree n x) more ∙ none))
    ] refl

pub value_with_parent : (tree : Tree) (value parent : ℕ) → parent_in tree value ≡ Some parent → is_among (slots_in tree) value ≡ true
value_with_parent [] value parent has = cc
value_with_parent (e ∷ tree) value parent has =
    elim (e.0 == value) as (λ b. (e.0 == value) ≡ b → cond b e.1 (parent_in tree value) ≡ Some parent → is_among (slots_in (e ∷ tree)) value ≡ true) [
      | true ↦ λ t _. or_left (value == e.0) (is_among (slots_in tree) value) ((Decides-eqb value e.0).1 (sym (same_number e.0 value t)))
      | false ↦ λ _ rest. or_right (value == e.0) (is_among (slots_in tree) value) (value_with_parent tree value parent rest)
    ] refl has

pub depth_child : (tree : Tree) (value parent : ℕ) → IsHierarchy tree → parent_in tree value ≡ Some parent → depth_in tree value ≡ suc (depth_in tree parent)
depth_child [] value parent h has = cc
depth_child (e ∷ rest) value parent h has =
    let tree : Tree = e ∷ rest in
    let more : length rest + 1 ≡ suc (length rest) = omega arith in
    let ends : up tree (length rest) parent ≡ None =
    elim (up tree (length rest) parent) as (λ o. up tree (length rest) parent ≡ o → o ≡ None) [
      | None ↦ λ _. refl
      | Some x ↦ λ is. absurd (no_far tree value x h (value_with_parent tree value parent has) (ap (λ n. up tree n value) (sym more) ∙ up-add tree (length rest) 1 value parent has ∙ is))
    ] refl in
    depth_step tree (suc (length rest)) (length rest) value parent refl has ∙ ap suc (sym (depth_stable tree (length rest) parent ends))

-- at most as many steps as there is room
pub depth_most : (tree : Tree) (n x : ℕ) → depth_within tree n x ≤ n
depth_most tree zero x = omega arith
depth_most tree (suc n) x =
    elim (parent_in tree x) as (λ p. one_more (option_map (λ q. depth_within tree n q) p) ≤ suc n) [
      | None ↦ omega arith
      | Some p ↦ let r = depth_most tree n p in omega (arith, r)
    ]
