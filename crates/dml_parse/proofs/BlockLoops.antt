-- How the loops over the lines of a block go through the grammar.
use Rattle.std.specs.Prelude.{ℕ, true, ◌≡◌, List, [], ◌∷◌, ◌++◌}
use Rattle.std.proofs.Common.{◌∙◌, ap, sym}
use Rattle.dml_tree.specs.declared.word.Word.TheVariants as w
use Rattle.dml_tree.specs.declared.token.Sort.TheVariants as s
use Rattle.dml_tree.specs.declared.definition.Local.{Local}
use Rattle.dml_tree.specs.declared.definition.Step.{Step}
use Rattle.dml_tree.specs.declared.definition.MapLine.{MapLine}
use Rattle.dml_forms.specs.Forms.{goes}
use Rattle.dml_forms.specs.inside.LookAhead.{found}
use Rattle.dml_grammar.specs.declared.placed.Placed.{Placed}
use Rattle.dml_grammar.specs.Sorts.{sort}
use Rattle.dml_grammar.specs.Grammar as g
use Rattle.dml_grammar.specs.inside.Tables.{reads, step_starts}
use Rattle.dml_grammar.specs.inside.Steps.{comes}
use Rattle.dml_grammar.proofs.callers.Steps.{reads_is, same_part}

pub steps_from : (xs : List Placed) (start : List Step) → start ≡ [] → reads (g.steps []) xs ≡ reads (g.steps start) xs
steps_from xs start fresh = ap (λ (t : List Step). reads (g.steps t) xs) (sym fresh)

pub steps_more : (xs ys : List Placed) (l t : List Step) (x : Step) → goes sort step_starts xs ≡ true → reads g.step xs ≡ found x ys → t ≡ l ++ x ∷ [] → reads (g.steps l) xs ≡ reads (g.steps t) ys
steps_more xs ys l t x so at made = reads_is (g.steps l) xs ∙ rw (so, at) (same_part (reads (g.steps (l ++ x ∷ [])) ys)) ∙ ap (λ (t : List Step). reads (g.steps t) ys) (sym made)

pub ending_from : (xs : List Placed) (a v : List Local) (start : List Step) → start ≡ [] → reads (g.ending a v []) xs ≡ reads (g.ending a v start) xs
ending_from xs a v start fresh = ap (λ (t : List Step). reads (g.ending a v t) xs) (sym fresh)

pub ending_more : (xs ys : List Placed) (a v : List Local) (l t : List Step) (x : Step) → goes sort step_starts xs ≡ true → reads g.step xs ≡ found x ys → t ≡ l ++ x ∷ [] → reads (g.ending a v l) xs ≡ reads (g.ending a v t) ys
ending_more xs ys a v l t x so at made = reads_is (g.ending a v l) xs ∙ rw (so, at) (same_part (reads (g.ending a v (l ++ x ∷ [])) ys)) ∙ ap (λ (t : List Step). reads (g.ending a v t) ys) (sym made)

pub variables_from : (xs : List Placed) (a : List Local) (start : List Local) → start ≡ [] → reads (g.variables a []) xs ≡ reads (g.variables a start) xs
variables_from xs a start fresh = ap (λ (t : List Local). reads (g.variables a t) xs) (sym fresh)

pub variables_more : (xs ys zs : List Placed) (a : List Local) (n : ℕ) (l t : List Local) (x : Local) → comes (s.Word w.Variable) xs ≡ true → reads (g.line_of w.Variable) xs ≡ found n ys → reads (g.local n) ys ≡ found x zs → t ≡ l ++ x ∷ [] → reads (g.variables a l) xs ≡ reads (g.variables a t) zs
variables_more xs ys zs a n l t x so line at made = reads_is (g.variables a l) xs ∙ rw (so, line, at) (same_part (reads (g.variables a (l ++ x ∷ [])) zs)) ∙ ap (λ (t : List Local). reads (g.variables a t) zs) (sym made)

pub body_from : (xs : List Placed) (start : List Local) → start ≡ [] → reads (g.body []) xs ≡ reads (g.body start) xs
body_from xs start fresh = ap (λ (t : List Local). reads (g.body t) xs) (sym fresh)

pub body_more : (xs ys zs : List Placed) (n : ℕ) (l t : List Local) (x : Local) → comes (s.Word w.Argument) xs ≡ true → reads (g.line_of w.Argument) xs ≡ found n ys → reads (g.local n) ys ≡ found x zs → t ≡ l ++ x ∷ [] → reads (g.body l) xs ≡ reads (g.body t) zs
body_more xs ys zs n l t x so line at made = reads_is (g.body l) xs ∙ rw (so, line, at) (same_part (reads (g.body (l ++ x ∷ [])) zs)) ∙ ap (λ (t : List Local). reads (g.body t) zs) (sym made)

pub map_first : (xs ys : List Placed) (x : MapLine) (start l : List MapLine) → reads g.map_line xs ≡ found x ys → start ≡ [] → l ≡ start ++ x ∷ [] → reads g.map xs ≡ reads (g.more_map l) ys
map_first xs ys x start l at fresh made = reads_is g.map xs ∙ rw at (same_part (reads (g.more_map (x ∷ [])) ys)) ∙ ap (λ (t : List MapLine). reads (g.more_map t) ys) (sym (made ∙ ap (λ (t : List MapLine). t ++ x ∷ []) fresh))

pub map_more : (xs ys : List Placed) (l t : List MapLine) (x : MapLine) → comes (s.Word w.Relation) xs ≡ true → reads g.map_line xs ≡ found x ys → t ≡ l ++ x ∷ [] → reads (g.more_map l) xs ≡ reads (g.more_map t) ys
map_more xs ys l t x so at made = reads_is (g.more_map l) xs ∙ rw (so, at) (same_part (reads (g.more_map (l ++ x ∷ [])) ys)) ∙ ap (λ (t : List MapLine). reads (g.more_map t) ys) (sym made)
