-- A line from its first level to its last.
use Rattle.std.proofs.Common.{◌≡◌, ◌≢◌, ℕ, suc, ◌==◌, ◌+◌, ◌*◌, ◌<◌, ◌≤◌, cond, true, false, ℤ, List, [], ◌∷◌, ◌++◌, length, map, slice_set, Option, Some, None, refl, sym, ap, ◌∙◌, arith}
use Rattle.std.specs.Option.{option_map}
use Rattle.std.specs.BTreeMap.{BTreeMap}
use Rattle.std.proofs.lemmas.Bool.Decides.{Decides-eqb}
use Rattle.std.proofs.lemmas.Nat.{mul-le}
use Rattle.std.proofs.Math.ListN.{length-set}
use Rattle.aw_cell.specs.declared.cell.Kind.{Kind}
use Rattle.aw_cell.specs.declared.operator.Operator.{Operator}
use Rattle.aw_rel.specs.Hierarchy.{Tree, is_among, children_in, leaves_in, is_leaf, IsHierarchy}
use Rattle.aw_rel.proofs.CallerLemmas.{or_left, number_itself, same_number}
use Rattle.aw_rel.proofs.CallerLemmas.{child_parent}
use Rattle.agg_run.specs.Numbers.{operated, present}
use Rattle.agg_run.specs.Aggregates.{Numbers, slot_at}
use Rattle.agg_run.specs.inside.Folds.{with, summed, fold_of, finished}
use Rattle.agg_run.specs.inside.Levels.{Levels, Held, fold_at, held_at, on_level, started, leaf_cell, fold_below, whole, whole_cell, ended, or_else, depth_in}
use Rattle.agg_run.specs.inside.Passes.{IsAfterWhereSmall, IsCarried}
use Rattle.agg_run.specs.declared.folding.Fold.{Fold}
use Rattle.agg_run.proofs.Joining.{summed-map}
use Rattle.agg_run.proofs.Leaves.{some_children, leaves_most}
use Rattle.agg_run.proofs.Depths.{depth_child}
use Rattle.agg_run.proofs.Rising.{on_level-front, on_level-last, level_above}
use Rattle.agg_run.proofs.Operating.{finished_operated, present_within, present_most}

same_depth : (a b : ℕ) → a ≡ b → (a == b) ≡ true
same_depth a b e = (Decides-eqb a b).1 e

other_depth : (a b : ℕ) → a ≢ b → (a == b) ≡ false
other_depth a b other = elim (a == b) as (λ t. (a == b) ≡ t → t ≡ false) [
  | true ↦ λ t. absurd (other (same_number a b t))
  | false ↦ λ _. refl
] refl

head_among : (xs : List ℕ) → xs ≢ [] → (x : ℕ) × (is_among xs x ≡ true)
head_among [] some = absurd (some refl)
head_among (x ∷ xs) some = (x, or_left (x == x) (is_among xs x) (number_itself x))

module _ (kind : Kind) (o : Operator) (tree : Tree) (place : ℕ) (numbers : Numbers) (h : IsHierarchy tree) where
  -- a value on the deepest level that there may be has no children
  deepest : (height : ℕ) → ((slot : ℕ) → depth_in tree slot ≤ height) → (slot : ℕ) → depth_in tree slot ≡ height → is_leaf tree slot ≡ true
  deepest height most_of slot deep = elim (is_leaf tree slot) as (λ b. is_leaf tree slot ≡ b → b ≡ true) [
    | true ↦ λ _. refl
    | false ↦ λ inner.
        let child = head_among (children_in tree slot) (some_children tree slot inner) in
        let step = depth_child tree child.0 slot h (child_parent tree slot child.0 h.apart child.1) in
        let most = most_of child.0 in
        absurd (omega (arith, step, most, deep))
  ] refl

  pub carried_first : (height : ℕ) → ((slot : ℕ) → depth_in tree slot ≤ height) → (levels : Levels) (after : Held) → length levels ≡ height + 1 → after ≡ [] → ((depth : ℕ) (key : List ℕ) → on_level levels depth key ≡ leaf_cell tree place numbers depth key) → IsCarried kind o tree place numbers levels after
  carried_first height most_of levels after size empty is = record {
    begun = λ depth key _. is depth key;
    top = λ depth key last within.
        is depth key ∙ elim (depth == depth_in tree (slot_at key place)) as (λ b. (depth == depth_in tree (slot_at key place)) ≡ b → cond b (cond (is_leaf tree (slot_at key place)) (started numbers key) None) None ≡ cond b (whole o tree place numbers key) None) [
          | true ↦ λ t.
              let deep = same_number depth (depth_in tree (slot_at key place)) t in
              let leaf = deepest height most_of (slot_at key place) (omega (arith, deep, last, size)) in
              ap (λ b. cond b (started numbers key) None) leaf ∙ ap (λ b. cond b (started numbers key) (fold_below o tree place numbers key)) (sym leaf)
          | false ↦ λ _. refl
        ] refl;
    done = λ key within deep. let most = most_of (slot_at key place) in absurd (omega (arith, deep, most, size));
    later = λ key within _. ap (λ (held : Held). held_at held key) empty;
  }

  -- the highest level is taken and finished, and the one above it, where there is one, completed
  pub carried_more : (levels rest risen : Levels) (level : BTreeMap (List ℕ) Fold) (after later : Held) → levels ≡ rest ++ level ∷ [] → IsCarried kind o tree place numbers levels after → length risen ≡ length rest →
      ((depth : ℕ) (key : List ℕ) → suc depth < length rest → on_level risen depth key ≡ on_level rest depth key) →
      ((depth : ℕ) (key : List ℕ) → suc depth ≡ length rest → place < length key → on_level risen depth key ≡ with o (on_level rest depth key) (summed o (λ y. fold_at level.entries (slice_set key place y)) (children_in tree (slot_at key place)))) →
      ((key : List ℕ) → held_at later key ≡ or_else (option_map (ended kind o tree place key) (fold_at level.entries key)) (held_at after key)) →
      IsCarried kind o tree place numbers risen later
  carried_more levels rest risen level after later is before size same up finish =
      let long : length levels ≡ suc (length rest) = ap (λ (l : Levels). length l) is ∙ pushed rest in
      let leveled : (key : List ℕ) → place < length key → fold_at level.entries key ≡ whole_cell o tree place numbers (length rest) key =
      λ key within. sym (on_level-last rest level key) ∙ ap (λ (l : Levels). on_level l (length rest) key) (sym is) ∙ before.top (length rest) key (omega (arith, long)) within in
      let begun : (depth : ℕ) (key : List ℕ) → depth < length rest → on_level rest depth key ≡ leaf_cell tree place numbers depth key =
      λ depth key within. sym (on_level-front rest (level ∷ []) depth key within) ∙ ap (λ (l : Levels). on_level l depth key) (sym is) ∙ before.begun depth key (omega (arith, within, long)) in
      record {
        begun = λ depth key within. same depth key (omega (arith, within, size)) ∙ begun depth key (omega (arith, within, size));
        top = λ depth key last within.
            let here : suc depth ≡ length rest = omega (arith, last, size) in
            up depth key here within
            ∙ ap (λ f. with o f (summed o (λ y. fold_at level.entries (slice_set key place y)) (children_in tree (slot_at key place)))) (begun depth key (omega (arith, here)))
            ∙ level_above o tree place numbers h level.entries depth key within (λ q room. leveled q room ∙ ap (λ d. whole_cell o tree place numbers d q) (sym here));
        done = λ key within deep.
            finish key ∙ ap (λ f. or_else (option_map (ended kind o tree place key) f) (held_at after key)) (leveled key within)
            ∙ elim (length rest == depth_in tree (slot_at key place)) as (λ b. (length rest == depth_in tree (slot_at key place)) ≡ b → or_else (option_map (ended kind o tree place key) (cond b (whole o tree place numbers key) None)) (held_at after key) ≡ option_map (ended kind o tree place key) (whole o tree place numbers key)) [
              | true ↦ λ t.
                  let on = same_number (length rest) (depth_in tree (slot_at key place)) t in
                  ap (or_else (option_map (ended kind o tree place key) (whole o tree place numbers key))) (before.later key within (omega (arith, on, long))) ∙ alone (option_map (ended kind o tree place key) (whole o tree place numbers key))
              | false ↦ λ f.
                  let other : length rest ≡ depth_in tree (slot_at key place) → ⊥ = λ e. let t = same_depth (length rest) (depth_in tree (slot_at key place)) e in cc in
                  before.done key within (omega (arith, deep, size, long, other))
            ] refl;
        later = λ key within shallow.
            let other : length rest ≡ depth_in tree (slot_at key place) → ⊥ = λ e. omega (arith, shallow, size, e) in
            finish key ∙ ap (λ f. or_else (option_map (ended kind o tree place key) f) (held_at after key)) (leveled key within ∙ ap (λ b. cond b (whole o tree place numbers key) None) (other_depth (length rest) (depth_in tree (slot_at key place)) other))
            ∙ before.later key within (omega (arith, shallow, size, long));
      }
    where
      pushed : (xs : Levels) → length (xs ++ level ∷ []) ≡ suc (length xs)
      pushed [] = refl
      pushed (x ∷ xs) = ap suc (pushed xs)

      alone : (n : Option ℤ) → or_else n None ≡ n
      alone None = refl
      alone (Some n) = refl

  -- when all levels are finished the numbers are those after the line
  pub carried_last : (after : Held) (values : ℕ) → IsCarried kind o tree place numbers [] after → values ≡ length tree → values ≤ 65536 → IsAfterWhereSmall kind o tree values place numbers (held_at after)
  carried_last after values carried size few slots there small key long =
      let within : place < length key = omega (arith, there, long) in
      carried.done key within (omega arith)
      ∙ elim (is_leaf tree (slot_at key place)) as (λ b. option_map (λ f. cond b f.number (finished kind o f)) (cond b (started numbers key) (fold_below o tree place numbers key)) ≡ cond b (numbers key) (operated kind o (map (λ leaf. numbers (slice_set key place leaf)) (leaves_in tree (slot_at key place))))) [
        | true ↦ back (numbers key)
        | false ↦
            let listed : List (Option ℤ) = map (λ leaf. numbers (slice_set key place leaf)) (leaves_in tree (slot_at key place)) in
            let count = present_most listed in
            let leaves = leaves_most tree numbers key place (slot_at key place) in
            let fits = few_fit (length (present listed)) values small.bound (omega (arith, count, leaves, size)) in
            ap (option_map (finished kind o)) (sym (summed-map o (λ z. option_map fold_of z) (λ leaf. numbers (slice_set key place leaf)) (leaves_in tree (slot_at key place))))
            ∙ finished_operated kind small.bound o listed (present_within small.bound numbers (λ leaf. slice_set key place leaf) (leaves_in tree (slot_at key place)) (λ leaf. small.each (slice_set key place leaf) (length-set key place leaf ∙ long)))
            (let f = small.fits in omega (arith, fits, f)) (omega (arith, count, leaves, size, few))
      ]
    where
      back : (n : Option ℤ) → option_map (λ (f : Fold). f.number) (option_map fold_of n) ≡ n
      back None = refl
      back (Some n) = refl

      few_fit : (count values bound : ℕ) → count ≤ values → count * bound ≤ values * bound
      few_fit count values bound few = mul-le count bound values bound few (omega arith)
