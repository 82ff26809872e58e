-- How the loops over lists go through the grammar.
use Rattle.std.specs.Prelude.{ℕ, true, ◌≡◌, List, [], ◌∷◌, ◌++◌, map}
use Rattle.std.proofs.Common.{◌∙◌, ap, sym}
use Rattle.dml_tree.specs.declared.token.Symbol.TheVariants as y
use Rattle.dml_tree.specs.declared.token.Sort.TheVariants as s
use Rattle.dml_tree.specs.declared.expr.Fix.{Fix}
use Rattle.dml_tree.specs.declared.expr.Expr.{Expr}
use Rattle.dml_tree.specs.declared.statement.Range.{Range}
use Rattle.dml_forms.specs.Forms.{goes}
use Rattle.dml_forms.specs.inside.LookAhead.{found}
use Rattle.dml_grammar.specs.declared.placed.Placed.{Placed}
use Rattle.dml_grammar.specs.Sorts.{sort, number}
use Rattle.dml_grammar.specs.Grammar as g
use Rattle.dml_grammar.specs.inside.Tables.{reads}
use Rattle.dml_grammar.specs.inside.Steps.{comes}
use Rattle.dml_grammar.proofs.callers.Steps.{reads_is, same_part}

pub names_first : (xs ys : List Placed) (x : (List ℕ)) (start l : List (List ℕ)) → reads g.name xs ≡ found x ys → start ≡ [] → l ≡ start ++ x ∷ [] → reads g.names xs ≡ reads (g.more_names l) ys
names_first xs ys x start l at fresh made = reads_is g.names xs ∙ rw at (same_part (reads (g.more_names (x ∷ [])) ys)) ∙ ap (λ (t : List (List ℕ)). reads (g.more_names t) ys) (sym (made ∙ ap (λ (t : List (List ℕ)). t ++ x ∷ []) fresh))

pub names_more : (xs ys : List Placed) (l t : List (List ℕ)) (x : (List ℕ)) → goes sort (map number (s.Symbol y.Comma ∷ s.Name ∷ [])) xs ≡ true → reads g.next_name xs ≡ found x ys → t ≡ l ++ x ∷ [] → reads (g.more_names l) xs ≡ reads (g.more_names t) ys
names_more xs ys l t x so at made = reads_is (g.more_names l) xs ∙ rw (so, at) (same_part (reads (g.more_names (l ++ x ∷ [])) ys)) ∙ ap (λ (t : List (List ℕ)). reads (g.more_names t) ys) (sym made)

pub texts_first : (xs ys : List Placed) (x : (List ℕ)) (start l : List (List ℕ)) → reads g.text xs ≡ found x ys → start ≡ [] → l ≡ start ++ x ∷ [] → reads g.texts xs ≡ reads (g.more_texts l) ys
texts_first xs ys x start l at fresh made = reads_is g.texts xs ∙ rw at (same_part (reads (g.more_texts (x ∷ [])) ys)) ∙ ap (λ (t : List (List ℕ)). reads (g.more_texts t) ys) (sym (made ∙ ap (λ (t : List (List ℕ)). t ++ x ∷ []) fresh))

pub texts_more : (xs ys : List Placed) (l t : List (List ℕ)) (x : (List ℕ)) → goes sort (map number (s.Symbol y.Comma ∷ s.Text ∷ [])) xs ≡ true → reads g.next_text xs ≡ found x ys → t ≡ l ++ x ∷ [] → reads (g.more_texts l) xs ≡ reads (g.more_texts t) ys
texts_more xs ys l t x so at made = reads_is (g.more_texts l) xs ∙ rw (so, at) (same_part (reads (g.more_texts (l ++ x ∷ [])) ys)) ∙ ap (λ (t : List (List ℕ)). reads (g.more_texts t) ys) (sym made)

pub fixes_first : (xs ys : List Placed) (x : Fix) (start l : List Fix) → reads g.fix xs ≡ found x ys → start ≡ [] → l ≡ start ++ x ∷ [] → reads g.fixes xs ≡ reads (g.more_fixes l) ys
fixes_first xs ys x start l at fresh made = reads_is g.fixes xs ∙ rw at (same_part (reads (g.more_fixes (x ∷ [])) ys)) ∙ ap (λ (t : List Fix). reads (g.more_fixes t) ys) (sym (made ∙ ap (λ (t : List Fix). t ++ x ∷ []) fresh))

pub fixes_more : (xs ys zs : List Placed) (l t : List Fix) (x : Fix) → comes (s.Symbol y.Comma) xs ≡ true → reads (g.sign y.Comma) xs ≡ found tt ys → reads g.fix ys ≡ found x zs → t ≡ l ++ x ∷ [] → reads (g.more_fixes l) xs ≡ reads (g.more_fixes t) zs
fixes_more xs ys zs l t x so comma at made = reads_is (g.more_fixes l) xs ∙ rw (so, comma, at) (same_part (reads (g.more_fixes (l ++ x ∷ [])) zs)) ∙ ap (λ (t : List Fix). reads (g.more_fixes t) zs) (sym made)
