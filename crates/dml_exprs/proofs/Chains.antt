-- How the loops over operators, which group to the left, go through the grammar.
use Rattle.std.specs.Prelude.{true, ◌≡◌, List, [], ◌∷◌, Result, Ok}
use Rattle.std.proofs.Common.{◌∙◌, ap, sym, subst}
use Rattle.dml_tree.specs.declared.word.Word.TheVariants as w
use Rattle.dml_tree.specs.declared.token.Symbol.TheVariants as y
use Rattle.dml_tree.specs.declared.token.Sort.TheVariants as s
use Rattle.dml_tree.specs.declared.expr.Expr.{Expr}
use Rattle.dml_tree.specs.declared.expr.Expr.TheVariants as e
use Rattle.dml_tree.specs.declared.expr.Joint.{Joint}
use Rattle.dml_tree.specs.declared.expr.Joint.TheVariants as j
use Rattle.dml_forms.specs.Forms.{goes}
use Rattle.dml_forms.specs.inside.LookAhead.{Outcome, found}
use Rattle.dml_grammar.specs.declared.placed.Placed.{Placed}
use Rattle.dml_grammar.specs.declared.fault.Fault.{Fault}
use Rattle.dml_grammar.specs.Sorts.{sort, symbols_of}
use Rattle.dml_grammar.specs.Grammar as g
use Rattle.dml_grammar.specs.inside.Tables.{reads}
use Rattle.dml_grammar.specs.inside.Steps.{Read, comes}
use Rattle.dml_grammar.proofs.callers.Steps.{reads_is, same_part}

-- what a step read, where its result was handed on
pub taken : {A : Type 0} (o : Outcome Placed A) (r : Result A Fault) (x : A) (ys : List Placed) → Read o r ys → r ≡ Ok x → o ≡ found x ys
taken {A} o r x ys read same = subst (λ (r : Result A Fault). Read o r ys) same read

-- the left side, held through two steps
pub same_left : (o : Joint) (l m n r t : Expr) → m ≡ l → n ≡ m → t ≡ e.Joined o n r → t ≡ e.Joined o l r
same_left o l m n r t here there made = made ∙ ap (λ (v : Expr). e.Joined o v r) (there ∙ here)

pub prod_first : (xs ys : List Placed) (l : Expr) → reads g.unary xs ≡ found l ys → reads g.prod xs ≡ reads (g.more_prod l) ys
prod_first xs ys l at = reads_is g.prod xs ∙ rw at (same_part (reads (g.more_prod l) ys))

pub prod_more : (xs ys zs : List Placed) (l r : Expr) (o : Joint) (t : Expr) → goes sort (symbols_of (y.Star ∷ y.Slash ∷ [])) xs ≡ true → reads g.multiplicative xs ≡ found o ys → reads g.unary ys ≡ found r zs → t ≡ e.Joined o l r → reads (g.more_prod l) xs ≡ reads (g.more_prod t) zs
prod_more xs ys zs l r o t so at right made = reads_is (g.more_prod l) xs ∙ rw (so, at, right) (same_part (reads (g.more_prod (e.Joined o l r)) zs)) ∙ ap (λ (v : Expr). reads (g.more_prod v) zs) (sym made)

pub sum_first : (xs ys : List Placed) (l : Expr) → reads g.prod xs ≡ found l ys → reads g.sum xs ≡ reads (g.more_sum l) ys
sum_first xs ys l at = reads_is g.sum xs ∙ rw at (same_part (reads (g.more_sum l) ys))

pub sum_more : (xs ys zs : List Placed) (l r : Expr) (o : Joint) (t : Expr) → goes sort (symbols_of (y.Plus ∷ y.Minus ∷ [])) xs ≡ true → reads g.additive xs ≡ found o ys → reads g.prod ys ≡ found r zs → t ≡ e.Joined o l r → reads (g.more_sum l) xs ≡ reads (g.more_sum t) zs
sum_more xs ys zs l r o t so at right made = reads_is (g.more_sum l) xs ∙ rw (so, at, right) (same_part (reads (g.more_sum (e.Joined o l r)) zs)) ∙ ap (λ (v : Expr). reads (g.more_sum v) zs) (sym made)

pub and_first : (xs ys : List Placed) (l : Expr) → reads g.not xs ≡ found l ys → reads g.and xs ≡ reads (g.more_and l) ys
and_first xs ys l at = reads_is g.and xs ∙ rw at (same_part (reads (g.more_and l) ys))

pub and_more : (xs ys zs : List Placed) (l r : Expr) (t : Expr) → comes (s.Word w.And) xs ≡ true → reads (g.keyword w.And) xs ≡ found tt ys → reads g.not ys ≡ found r zs → t ≡ e.Joined j.And l r → reads (g.more_and l) xs ≡ reads (g.more_and t) zs
and_more xs ys zs l r t so at right made = reads_is (g.more_and l) xs ∙ rw (so, at, right) (same_part (reads (g.more_and (e.Joined j.And l r)) zs)) ∙ ap (λ (v : Expr). reads (g.more_and v) zs) (sym made)

pub or_first : (xs ys : List Placed) (l : Expr) → reads g.and xs ≡ found l ys → reads g.or xs ≡ reads (g.more_or l) ys
or_first xs ys l at = reads_is g.or xs ∙ rw at (same_part (reads (g.more_or l) ys))

pub or_more : (xs ys zs : List Placed) (l r : Expr) (t : Expr) → comes (s.Word w.Or) xs ≡ true → reads (g.keyword w.Or) xs ≡ found tt ys → reads g.and ys ≡ found r zs → t ≡ e.Joined j.Or l r → reads (g.more_or l) xs ≡ reads (g.more_or t) zs
or_more xs ys zs l r t so at right made = reads_is (g.more_or l) xs ∙ rw (so, at, right) (same_part (reads (g.more_or (e.Joined j.Or l r)) zs)) ∙ ap (λ (v : Expr). reads (g.more_or v) zs) (sym made)
