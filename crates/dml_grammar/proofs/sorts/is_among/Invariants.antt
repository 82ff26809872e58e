use Rattle.std.proofs.Common.{◌≡◌, map, drop}
use Rattle.dml_forms.specs.Forms.{among}
use Rattle.dml_grammar.specs.Sorts.{number}
use Rattle.dml_grammar.proofs.sorts.is_among.Given as goal

abbrev pub invariant-loop-sort : goal.invariant-loop-sort
invariant-loop-sort l = among (number l.found) (map number (drop l.sort-index l.sorts)) ≡ among (number l.found) (map number l.sorts)
