-- Shares that are all within the limit, their sum, and the list of them as it is written.
use Rattle.std.proofs.Common.{◌≡◌, ◌∙◌, ℕ, ◌+◌, ◌<◌, ◌≤◌, ℤ, pos, ◌+ℤ◌, Bool, true, false, cond, List, [], ◌∷◌, ◌++◌, length, map, take, drop, set, get_or, Some, None, arith, refl, ap, sym}
use Rattle.std.specs.List.{list_all}
use Rattle.std.proofs.lemmas.Bool.{and_from}
use Rattle.std.proofs.lemmas.List.{map_more, get_or-map, length-map, length-take-le, drop_more, drop_all, set_at, take_all, append-nil}
use Rattle.std.proofs.lemmas.List.Folds.{list_all_at, list_all-append}
use Rattle.std.proofs.lemmas.List.Sums.{AllPass-from_list_all, fold_push}
use Rattle.alloc_share.specs.Shares.{total, are_within, is_within}
use Rattle.alloc_share.specs.inside.Sums.{sum_within}

pub some_parts : (b : Bool) (t s : ℤ) → cond b (Some t) None ≡ Some s → (b ≡ true) × (t ≡ s)
some_parts true t s h = (refl, grind arith)
some_parts false t s h = absurd (grind arith)

pub sum_parts : (most : ℤ) (shares : List ℤ) (sum : ℤ) → sum_within most shares ≡ Some sum → (are_within most shares ≡ true) × (total shares ≡ sum)
sum_parts most shares sum h = some_parts (are_within most shares) (total shares) sum h

pub sum_is : (most : ℤ) (shares : List ℤ) (sum : ℤ) → are_within most shares ≡ true → total shares ≡ sum → sum_within most shares ≡ Some sum
sum_is most shares sum h e = ap (λ b. cond b (Some (total shares)) None) h ∙ ap (λ s. Some s) e

pub sum_none : (most : ℤ) (shares : List ℤ) → are_within most shares ≡ false → None ≡ sum_within most shares
sum_none most shares h = sym (ap (λ b. cond b (Some (total shares)) None) h)

pub out_at : (most : ℤ) (share : ℤ → ℤ) (weights : List ℤ) (i : ℕ) → i < length weights → is_within most (share (get_or weights i (pos 0))) ≡ false → None ≡ sum_within most (map share weights)
out_at most share weights i there out =
    let below : i < length (map share weights) = omega (arith, length-map weights share) in
    sum_none most (map share weights)
    (list_all_at (is_within most) (map share weights) i (pos 0) below (ap (is_within most) (get_or-map share weights i (pos 0) (pos 0) there) ∙ out))

pub within_at : (most : ℤ) (share : ℤ → ℤ) (weights : List ℤ) (i : ℕ) → i < length weights → are_within most (map share weights) ≡ true → is_within most (share (get_or weights i (pos 0))) ≡ true
within_at most share weights i there all =
    let below : i < length (map share weights) = omega (arith, length-map weights share) in
    ap (is_within most) (sym (get_or-map share weights i (pos 0) (pos 0) there)) ∙ AllPass-from_list_all (is_within most) (map share weights) all i (pos 0) below

pub sum_more : (most : ℤ) (share : ℤ → ℤ) (weights : List ℤ) (i : ℕ) (sum next : ℤ) → i < length weights → sum_within most (map share (take i weights)) ≡ Some sum
    → next ≡ share (get_or weights i (pos 0)) → is_within most next ≡ true → sum_within most (map share (take (i + 1) weights)) ≡ Some (sum +ℤ next)
sum_more most share weights i sum next there before e within =
    let shares : List ℤ = map share (take i weights) in
    let split : map share (take (i + 1) weights) ≡ shares ++ next ∷ [] = map_more share weights i (pos 0) there ∙ ap (λ x. shares ++ x ∷ []) (sym e) in
    let parts = sum_parts most shares sum before in
    let last : list_all (is_within most) (next ∷ []) ≡ true = and_from (is_within most next) true within refl in
    let all : are_within most (shares ++ next ∷ []) ≡ true = list_all-append (is_within most) shares (next ∷ []) ∙ and_from (are_within most shares) (list_all (is_within most) (next ∷ [])) parts.0 last in
    let adds : total (shares ++ next ∷ []) ≡ sum +ℤ next = fold_push ◌+ℤ◌ (pos 0) shares next ∙ ap (λ s. s +ℤ next) parts.1 in
    ap (sum_within most) split ∙ sum_is most (shares ++ next ∷ []) (sum +ℤ next) all adds

-- ---- the list as it is written

pub written_none : (share : ℤ → ℤ) (weights old : List ℤ) → old ≡ map share (take 0 weights) ++ drop 0 old
written_none share weights old = refl

append_last : (xs : List ℤ) (y : ℤ) (ys : List ℤ) → xs ++ y ∷ ys ≡ (xs ++ y ∷ []) ++ ys
append_last [] y ys = refl
append_last (x ∷ xs) y ys = ap (λ zs. x ∷ zs) (append_last xs y ys)

pub written_more : (share : ℤ → ℤ) (weights old into : List ℤ) (i : ℕ) (next : ℤ) → i < length weights → length old ≡ length weights
    → into ≡ map share (take i weights) ++ drop i old → next ≡ share (get_or weights i (pos 0)) → set into i next ≡ map share (take (i + 1) weights) ++ drop (i + 1) old
written_more share weights old into i next there same e is =
    let shares : List ℤ = map share (take i weights) in
    let long : length shares ≡ i = length-map (take i weights) share ∙ length-take-le i weights (omega (arith, there)) in
    let split : into ≡ shares ++ get_or old i (pos 0) ∷ drop (i + 1) old = e ∙ ap (λ xs. shares ++ xs) (drop_more old i (pos 0) (omega (arith, there, same))) in
    let after : shares ++ (next ∷ drop (i + 1) old) ≡ (shares ++ next ∷ []) ++ drop (i + 1) old = append_last shares next (drop (i + 1) old) in
    ap (λ xs. set xs i next) split ∙ set_at shares (get_or old i (pos 0)) (drop (i + 1) old) next i long
    ∙ after ∙ ap (λ xs. xs ++ drop (i + 1) old) (sym (map_more share weights i (pos 0) there ∙ ap (λ x. shares ++ x ∷ []) (sym is)))

pub written_all : (share : ℤ → ℤ) (weights old into : List ℤ) (i : ℕ) → length weights ≤ i → length old ≡ length weights
    → into ≡ map share (take i weights) ++ drop i old → into ≡ map share weights
written_all share weights old into i all same e =
    e ∙ ap (λ xs. map share xs ++ drop i old) (take_all i weights all) ∙ ap (λ xs. map share weights ++ xs) (drop_all i old (omega (arith, all, same))) ∙ append-nil (map share weights)
