-- The rules of steps that hold steps, with what is inside read as one.
use Rattle.std.specs.Prelude.{ℕ, ◌≡◌, List, [], cond}
use Rattle.std.proofs.Common.{refl, ap, ◌∙◌}
use Rattle.dml_tree.specs.declared.word.Word.TheVariants as w
use Rattle.dml_tree.specs.declared.token.Sort.TheVariants as s
use Rattle.dml_tree.specs.declared.expr.Expr.{Expr}
use Rattle.dml_tree.specs.declared.definition.Step.{Step}
use Rattle.dml_tree.specs.declared.definition.Step.TheVariants as step_is
use Rattle.dml_forms.specs.inside.LookAhead.{Outcome, found, fault, and_then, parse}
use Rattle.dml_grammar.specs.declared.placed.Placed.{Placed}
use Rattle.dml_grammar.specs.Sorts.{sort}
use Rattle.dml_grammar.specs.Grammar as g
use Rattle.dml_grammar.specs.Grammar.{word, next_line, only}
use Rattle.dml_grammar.specs.inside.Tables.{first, reads}
use Rattle.dml_grammar.specs.inside.Steps.{comes}
use Rattle.dml_grammar.proofs.callers.Steps.{reads_is}
use Rattle.dml_parse.specs.Inside.{inside}

pub inside_is : (xs : List Placed) → inside xs ≡ parse sort first reads (word w.Do (next_line (only (g.steps [])))) xs
unfolding inside
inside_is xs = refl

third : {A B : Type 0} (o : Outcome Placed A) (f : A → List Placed → Outcome Placed B) → and_then o f ≡ and_then (and_then o (λ v rest. found v rest)) f
third (found v rest) f = refl
third (fault rest) f = refl

second : {A B : Type 0} (o : Outcome Placed (Unit {0})) (q : List Placed → Outcome Placed A) (f : A → List Placed → Outcome Placed B) → and_then o (λ _ s. and_then (q s) f) ≡ and_then (and_then o (λ _ s. and_then (q s) (λ v rest. found v rest))) f
second (found _ s) q f = third (q s) f
second (fault rest) q f = refl

first_of : {A B : Type 0} (o : Outcome Placed (Unit {0})) (p : List Placed → Outcome Placed (Unit {0})) (q : List Placed → Outcome Placed A) (f : A → List Placed → Outcome Placed B) → and_then o (λ _ r. and_then (p r) (λ _ s. and_then (q s) f)) ≡ and_then (and_then o (λ _ r. and_then (p r) (λ _ s. and_then (q s) (λ v rest. found v rest)))) f
first_of (found _ r) p q f = second (p r) q f
first_of (fault rest) p q f = refl

opened : {B : Type 0} (xs : List Placed) (f : List Step → List Placed → Outcome Placed B) → and_then (reads (g.keyword w.Do) xs) (λ _ r. and_then (reads g.line_end r) (λ _ s. and_then (reads (g.steps []) s) f)) ≡ and_then (inside xs) f
unfolding inside
opened xs f = first_of (reads (g.keyword w.Do) xs) (reads g.line_end) (reads (g.steps [])) f

under : {A B : Type 0} (o : Outcome Placed A) (f h : A → List Placed → Outcome Placed B) → ((a : A) (xs : List Placed) → f a xs ≡ h a xs) → and_then o f ≡ and_then o h
under (found a xs) f h same = same a xs
under (fault rest) f h same = refl

pub otherwise_is : (line : ℕ) (test : Expr) (one : List Step) (xs : List Placed) → reads (g.otherwise line test one) xs ≡ cond (comes (s.Word w.Else) xs) (and_then (reads (g.keyword w.Else) xs) (λ _ ys. and_then (inside ys) (λ v rest. found (step_is.If line test one v) rest))) (found (step_is.If line test one []) xs)
otherwise_is line test one xs =
    reads_is (g.otherwise line test one) xs
    ∙ ap (λ (o : Outcome Placed Step). cond (comes (s.Word w.Else) xs) o (found (step_is.If line test one []) xs)) (under (reads (g.keyword w.Else) xs) _ _ (λ _ ys. opened ys (λ v rest. found (step_is.If line test one v) rest)))

pub while_is : (xs : List Placed) → reads g.while xs ≡ and_then (reads (g.line_of w.While) xs) (λ line ys. and_then (reads g.expr ys) (λ test zs. and_then (inside zs) (λ v rest. found (step_is.While line test v) rest)))
while_is xs =
    reads_is g.while xs
    ∙ under (reads (g.line_of w.While) xs) _ _ (λ line ys. under (reads g.expr ys) _ _ (λ test zs. opened zs (λ v rest. found (step_is.While line test v) rest)))

pub for_is : (xs : List Placed) → reads g.for xs ≡ and_then (reads (g.line_of w.For) xs) (λ line ys. and_then (reads g.name ys) (λ of zs. and_then (inside zs) (λ v rest. found (step_is.For line of v) rest)))
for_is xs =
    reads_is g.for xs
    ∙ under (reads (g.line_of w.For) xs) _ _ (λ line ys. under (reads g.name ys) _ _ (λ of zs. opened zs (λ v rest. found (step_is.For line of v) rest)))

pub choice_is : (xs : List Placed) → reads g.choice xs ≡ and_then (reads (g.line_of w.If) xs) (λ line ys. and_then (reads g.expr ys) (λ test zs. and_then (reads (g.keyword w.Then) zs) (λ _ us. and_then (inside us) (λ one vs. and_then (reads (g.otherwise line test one) vs) (λ v rest. found v rest)))))
choice_is xs =
    reads_is g.choice xs
    ∙ under (reads (g.line_of w.If) xs) _ _ (λ line ys. under (reads g.expr ys) _ _ (λ test zs. under (reads (g.keyword w.Then) zs) _ _ (λ _ us. opened us (λ one vs. and_then (reads (g.otherwise line test one) vs) (λ v rest. found v rest)))))
