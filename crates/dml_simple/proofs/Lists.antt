-- How the loops over lists go through the grammar.
use Rattle.std.specs.Prelude.{ℕ, true, ◌≡◌, List, [], ◌∷◌, ◌++◌, map}
use Rattle.std.proofs.Common.{◌∙◌, ap, sym}
use Rattle.dml_tree.specs.declared.token.Symbol.TheVariants as y
use Rattle.dml_tree.specs.declared.token.Sort.TheVariants as s
use Rattle.dml_tree.specs.declared.expr.Fix.{Fix}
use Rattle.dml_tree.specs.declared.expr.Expr.{Expr}
use Rattle.dml_tree.specs.declared.statement.Range.{Range}
use Rattle.dml_forms.specs.Forms.{goes}
use Rattle.dml_forms.specs.inside.LookAhead.{found}
use Rattle.dml_grammar.specs.declared.placed.Placed.{Placed}
use Rattle.dml_grammar.specs.Sorts.{sort, number}
use Rattle.dml_grammar.specs.Grammar as g
use Rattle.dml_grammar.specs.inside.Tables.{reads}
use Rattle.dml_grammar.specs.inside.Steps.{comes}
use Rattle.dml_grammar.proofs.callers.Steps.{reads_is, same_part}

pub ranges_first : (xs ys : List Placed) (x : Range) (start l : List Range) → reads g.range xs ≡ found x ys → start ≡ [] → l ≡ start ++ x ∷ [] → reads g.ranges xs ≡ reads (g.more_ranges l) ys
ranges_first xs ys x start l at fresh made = reads_is g.ranges xs ∙ rw at (same_part (reads (g.more_ranges (x ∷ [])) ys)) ∙ ap (λ (t : List Range). reads (g.more_ranges t) ys) (sym (made ∙ ap (λ (t : List Range). t ++ x ∷ []) fresh))

pub ranges_more : (xs ys : List Placed) (l t : List Range) (x : Range) → goes sort (map number (s.Symbol y.Comma ∷ s.Text ∷ [])) xs ≡ true → reads g.next_range xs ≡ found x ys → t ≡ l ++ x ∷ [] → reads (g.more_ranges l) xs ≡ reads (g.more_ranges t) ys
ranges_more xs ys l t x so at made = reads_is (g.more_ranges l) xs ∙ rw (so, at) (same_part (reads (g.more_ranges (l ++ x ∷ [])) ys)) ∙ ap (λ (t : List Range). reads (g.more_ranges t) ys) (sym made)

pub arguments_first : (xs ys : List Placed) (x : Expr) (start l : List Expr) → reads g.expr xs ≡ found x ys → start ≡ [] → l ≡ start ++ x ∷ [] → reads g.arguments xs ≡ reads (g.more_arguments l) ys
arguments_first xs ys x start l at fresh made = reads_is g.arguments xs ∙ rw at (same_part (reads (g.more_arguments (x ∷ [])) ys)) ∙ ap (λ (t : List Expr). reads (g.more_arguments t) ys) (sym (made ∙ ap (λ (t : List Expr). t ++ x ∷ []) fresh))

pub arguments_more : (xs ys zs : List Placed) (l t : List Expr) (x : Expr) → comes (s.Symbol y.Comma) xs ≡ true → reads (g.sign y.Comma) xs ≡ found tt ys → reads g.expr ys ≡ found x zs → t ≡ l ++ x ∷ [] → reads (g.more_arguments l) xs ≡ reads (g.more_arguments t) zs
arguments_more xs ys zs l t x so comma at made = reads_is (g.more_arguments l) xs ∙ rw (so, comma, at) (same_part (reads (g.more_arguments (l ++ x ∷ [])) zs)) ∙ ap (λ (t : List Expr). reads (g.more_arguments t) zs) (sym made)
