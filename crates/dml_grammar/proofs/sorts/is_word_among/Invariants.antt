use Rattle.std.proofs.Common.{◌≡◌, drop}
use Rattle.dml_forms.specs.Forms.{among}
use Rattle.dml_grammar.specs.Sorts.{number, words_of}
use Rattle.dml_grammar.proofs.sorts.is_word_among.Given as goal

abbrev pub invariant-loop-word : goal.invariant-loop-word
invariant-loop-word l = among (number l.found) (words_of (drop l.word-index l.words)) ≡ among (number l.found) (words_of l.words)
