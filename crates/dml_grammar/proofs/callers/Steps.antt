-- What each part reads, by its rule.
use Rattle.std.specs.Prelude.{◌≡◌, ◌≤◌, List, length}
use Rattle.std.proofs.Common.{refl}
use Rattle.dml_forms.specs.inside.LookAhead.{Outcome, found, fault, and_then, left, parse}
use Rattle.dml_forms.proofs.CallerLemmas.{reading_is, shrinks}
use Rattle.dml_grammar.specs.declared.placed.Placed.{Placed}
use Rattle.dml_grammar.specs.Sorts.{sort}
use Rattle.dml_grammar.specs.Grammar.{Part, rule}
use Rattle.dml_grammar.specs.inside.Tables.{first, cont, nullable, rank, reads}
use Rattle.dml_grammar.proofs.Fitting.{fit}

pub reads_is : (n : Part) (xs : List Placed) → reads n xs ≡ parse sort first reads (rule n) xs
reads_is n xs = reading_is sort rule first cont nullable rank fit n xs

pub reads_less : (n : Part) (xs : List Placed) → left (reads n xs) ≤ length xs
reads_less n xs = shrinks sort rule first cont nullable rank fit n xs

-- a part that is another part
pub same_part : {A : Type 0} (o : Outcome Placed A) → and_then o (λ v rest. found v rest) ≡ o
same_part (found v rest) = refl
same_part (fault rest) = refl
