use Rattle.std.proofs.Common.{◌≡◌, drop}
use Rattle.dml_forms.specs.Forms.{among}
use Rattle.dml_grammar.specs.Sorts.{number, symbols_of}
use Rattle.dml_grammar.proofs.sorts.is_symbol_among.Given as goal

abbrev pub invariant-loop-symbol : goal.invariant-loop-symbol
invariant-loop-symbol l = among (number l.found) (symbols_of (drop l.symbol-index l.symbols)) ≡ among (number l.found) (symbols_of l.symbols)
