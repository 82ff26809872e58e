-- What stands inside a step: DO and the end of its line, and behind it the steps up to DOEND.
use Rattle.std.specs.Prelude.{List, []}
use Rattle.dml_tree.specs.declared.word.Word.TheVariants as w
use Rattle.dml_tree.specs.declared.definition.Step.{Step}
use Rattle.dml_forms.specs.inside.LookAhead.{Outcome, parse}
use Rattle.dml_grammar.specs.declared.placed.Placed.{Placed}
use Rattle.dml_grammar.specs.Sorts.{sort}
use Rattle.dml_grammar.specs.Grammar.{steps, word, next_line, only}
use Rattle.dml_grammar.specs.inside.Tables.{first, reads}

unfoldable pub inside : List Placed → Outcome Placed (List Step)
inside xs = parse sort first reads (word w.Do (next_line (only (steps [])))) xs
