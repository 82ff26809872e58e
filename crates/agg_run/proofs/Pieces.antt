-- Cells that are added up in pieces come to the same, however they are cut.
use Rattle.std.proofs.Common.{◌≡◌, ℕ, suc, zero, ◌<◌, cond, List, [], ◌∷◌, ◌++◌, ◌≤◌, length, drop, get_or, Option, Some, None, Result, Ok, Err, IfOk, refl, sym, ap, subst, ◌∙◌, arith}
use Rattle.std.specs.List.{IsDistinct, flat_map, AllZip}
use Rattle.std.specs.Option.{option_map}
use Rattle.std.specs.Map.{keys_of}
use Rattle.std.specs.BTreeMap.{BTreeMap, is_at}
use Rattle.std.specs.Ordering.{eq_by_cmp}
use Rattle.std.proofs.Math.Seq.{drop-cons}
use Rattle.aw_cell.specs.declared.operator.Operator.{Operator}
use Rattle.aw_rel.specs.Hierarchy.{Tree, parent_in}
use Rattle.aw_var.specs.CellMap.{by_slots}
use Rattle.agg_run.specs.Aggregates.{slot_at}
use Rattle.agg_run.specs.inside.Folds.{with, summed}
use Rattle.agg_run.specs.inside.Levels.{Folds, fold_at, lifted_to, raised_key, given_at}
use Rattle.agg_run.specs.inside.Sharing.{AreSumsOf, IsAdded, gathered, raised_cells, with_raised}
use Rattle.agg_run.specs.declared.folding.Fold.{Fold}
use Rattle.agg_run.proofs.Joining.{with-none, with-assoc, summed-same}
use Rattle.agg_run.proofs.Sums.{summed-lookup, key_turned}

-- one cell more
pub gathered_more : (o : Operator) (was now : Option Fold) (at : List ℕ) (fold : Fold) (left rest : Folds) (key : List ℕ) (goal : Option Fold) → left ≡ (at, fold) ∷ rest → now ≡ with o was (cond (is_at (by_slots at) key) (Some fold) None) →
    with o was (gathered o left key) ≡ goal → with o now (gathered o rest key) ≡ goal
gathered_more o was now at fold left rest key goal first is before =
    ap (λ x. with o x (gathered o rest key)) is
    ∙ with-assoc o was (cond (is_at (by_slots at) key) (Some fold) None) (gathered o rest key)
    ∙ ap (λ (l : Folds). with o was (gathered o l key)) (sym first) ∙ before

pub dropped_more : (o : Operator) (was now : Option Fold) (cells : Folds) (place next : ℕ) (d : List ℕ × Fold) (key : List ℕ) (goal : Option Fold) → next ≡ suc place → place < length cells →
    now ≡ with o was (cond (is_at (by_slots (get_or cells place d).0) key) (Some (get_or cells place d).1) None) → with o was (gathered o (drop place cells) key) ≡ goal → with o now (gathered o (drop next cells) key) ≡ goal
dropped_more o was now cells place next d key goal is within set before =
    ap (λ n. with o now (gathered o (drop n cells) key)) is
    ∙ gathered_more o was now (get_or cells place d).0 (get_or cells place d).1 (drop place cells) (drop (suc place) cells) key goal (drop-cons cells place d within) set before

pub gathered_none : (o : Operator) (was : Option Fold) (left : Folds) (key : List ℕ) → left ≡ [] → with o was (gathered o left key) ≡ was
gathered_none o was left key none = ap (λ (l : Folds). with o was (gathered o l key)) none ∙ with-none o was

-- a map's own cells
pub gathered_map : (o : Operator) (cells : Folds) (key : List ℕ) → IsDistinct (eq_by_cmp by_slots) (keys_of cells) → gathered o cells key ≡ fold_at cells key
gathered_map o cells key distinct =
    summed-same o (λ (e : List ℕ × Fold). cond (is_at (by_slots e.0) key) (Some e.1) None) (λ (e : List ℕ × Fold). cond (is_at (by_slots key) e.0) (Some e.1) None) cells (λ e. ap (λ b. cond b (Some e.1) None) (key_turned e.0 key))
    ∙ summed-lookup o (λ (f : Fold). f) key cells distinct ∙ same_option (fold_at cells key)
  where
    same_option : (f : Option Fold) → option_map (λ (x : Fold). x) f ≡ f
    same_option None = refl
    same_option (Some f) = refl

-- what a level's cells come to one step higher
pub gathered_raised : (o : Operator) (tree : Tree) (place : ℕ) (cells : Folds) (key : List ℕ) → gathered o (raised_cells tree place cells) key ≡ summed o (lifted_to tree place key) cells
gathered_raised o tree place [] key = refl
gathered_raised o tree place (e ∷ cells) key = cases (raised_key place e.0 (parent_in tree (slot_at e.0 place))) ∙ ap (with o (lifted_to tree place key e)) (gathered_raised o tree place cells key)
  where
    cases : (above : Option (List ℕ)) → gathered o (with_raised above e.1 (raised_cells tree place cells)) key ≡ with o (given_at key e.1 above) (gathered o (raised_cells tree place cells) key)
    cases None = refl
    cases (Some above) = refl

-- the pieces come to what the whole comes to
gathered_append : (o : Operator) (xs ys : Folds) (key : List ℕ) → gathered o (xs ++ ys) key ≡ with o (gathered o xs key) (gathered o ys key)
gathered_append o [] ys key = refl
gathered_append o (x ∷ xs) ys key =
    ap (with o (cond (is_at (by_slots x.0) key) (Some x.1) None)) (gathered_append o xs ys key)
    ∙ sym (with-assoc o (cond (is_at (by_slots x.0) key) (Some x.1) None) (gathered o xs key) (gathered o ys key))

pub gathered_pieces : (o : Operator) (pieces : List Folds) (key : List ℕ) → summed o (λ piece. gathered o piece key) pieces ≡ gathered o (flat_map (λ (piece : Folds). piece) pieces) key
gathered_pieces o [] key = refl
gathered_pieces o (piece ∷ pieces) key = ap (with o (gathered o piece key)) (gathered_pieces o pieces key) ∙ sym (gathered_append o piece (flat_map (λ (p : Folds). p) pieces) key)

-- ---- pieces one by one

zip_length : {A B : Type 0} (R : A → B → Type 0) (xs : List A) (ys : List B) → AllZip R xs ys → length xs ≡ length ys
zip_length R [] [] zip = refl
zip_length R [] (y ∷ ys) zip = absurd zip
zip_length R (x ∷ xs) [] zip = absurd zip
zip_length R (x ∷ xs) (y ∷ ys) zip = ap suc (zip_length R xs ys zip.1)

zip_at : {A B : Type 0} (R : A → B → Type 0) (xs : List A) (ys : List B) (k : ℕ) (d : A) (e : B) → AllZip R xs ys → k < length ys → R (get_or xs k d) (get_or ys k e)
zip_at R [] [] k d e zip within = absurd (omega (arith, within))
zip_at R [] (y ∷ ys) k d e zip within = absurd zip
zip_at R (x ∷ xs) [] k d e zip within = absurd zip
zip_at R (x ∷ xs) (y ∷ ys) zero d e zip within = zip.0
zip_at R (x ∷ xs) (y ∷ ys) (suc k) d e zip within = zip_at R xs ys k d e zip.1 (omega (arith, within))

piece_added : {E : Type 0} (o : Operator) (piece : Result (BTreeMap (List ℕ) Fold) E) (part : Folds) (was now : List ℕ → Option Fold) → IsAdded o was piece now → IfOk piece (λ of. AreSumsOf o part of.entries) → (key : List ℕ) → now key ≡ with o (was key) (gathered o part key)
piece_added o (Ok sums) part was now added are key = added key ∙ ap (with o (was key)) (are key)
piece_added o (Err fault) part was now added are key = absurd added

pub pieces_more : {E : Type 0} (o : Operator) (parts : List Folds) (pieces : List (Result (BTreeMap (List ℕ) Fold) E)) (k next : ℕ) (piece : Result (BTreeMap (List ℕ) Fold) E) (was now goal : List ℕ → Option Fold) → next ≡ suc k → k < length pieces →
    AllZip (λ part sums. IfOk sums (λ of. AreSumsOf o part of.entries)) parts pieces → piece ≡ get_or pieces k piece → IsAdded o was piece now →
    ((key : List ℕ) → with o (was key) (summed o (λ part. gathered o part key) (drop k parts)) ≡ goal key) → (key : List ℕ) → with o (now key) (summed o (λ part. gathered o part key) (drop next parts)) ≡ goal key
pieces_more o parts pieces k next piece was now goal is within zip at added before key =
    let size = zip_length (λ part sums. IfOk sums (λ of. AreSumsOf o part of.entries)) parts pieces zip in
    let here : IfOk piece (λ of. AreSumsOf o (get_or parts k []) of.entries) = subst (λ p. IfOk p (λ of. AreSumsOf o (get_or parts k []) of.entries)) (sym at) (zip_at (λ part sums. IfOk sums (λ of. AreSumsOf o part of.entries)) parts pieces k [] piece zip within) in
    ap (λ n. with o (now key) (summed o (λ part. gathered o part key) (drop n parts))) is
    ∙ ap (λ f. with o f (summed o (λ part. gathered o part key) (drop (suc k) parts))) (piece_added o piece (get_or parts k []) was now added here key)
    ∙ with-assoc o (was key) (gathered o (get_or parts k []) key) (summed o (λ part. gathered o part key) (drop (suc k) parts))
    ∙ ap (λ (l : List Folds). with o (was key) (summed o (λ part. gathered o part key) l)) (sym (drop-cons parts k [] (omega (arith, within, size))))
    ∙ before key

pub pieces_all : {E : Type 0} (o : Operator) (parts : List Folds) (pieces : List (Result (BTreeMap (List ℕ) Fold) E)) (k : ℕ) (now : Option Fold) (key : List ℕ) → AllZip (λ part sums. IfOk sums (λ of. AreSumsOf o part of.entries)) parts pieces → length pieces ≤ k →
    with o now (summed o (λ part. gathered o part key) (drop k parts)) ≡ now
pieces_all o parts pieces k now key zip end =
    let size = zip_length (λ part sums. IfOk sums (λ of. AreSumsOf o part of.entries)) parts pieces zip in
    ap (λ (l : List Folds). with o now (summed o (λ part. gathered o part key) l)) (nothing parts k (omega (arith, end, size))) ∙ with-none o now
  where
    nothing : (xs : List Folds) (n : ℕ) → length xs ≤ n → drop n xs ≡ []
    nothing [] zero h = refl
    nothing [] (suc n) h = refl
    nothing (x ∷ xs) zero h = absurd (omega (arith, h))
    nothing (x ∷ xs) (suc n) h = nothing xs n (omega (arith, h))
