-- The table of the words has the reserved words, each behind its number.
use Rattle.std.proofs.Common.{◌≡◌, ◌+◌, ℕ, ◌∙◌, refl, ap, true, false, Bool, cond, ◌&&◌, List, [], ◌∷◌, map}
use Rattle.std.specs.Prelude.{nat_eq, Some, option_map}
use Rattle.std.specs.List.{position_from}
use Rattle.std.proofs.lemmas.Bool.{and_parts, eqb-true}
use Rattle.aw_cell.specs.Names.{same_word, reserved_words}
use Rattle.dml_tree.specs.Words.{word_number, word_place}
use Rattle.dml_tree.specs.declared.word.Word.{Word}
use Rattle.dml_tree.specs.declared.word.TheConstants.{WORDS}
use Rattle.dml_tree.specs.inside.Scanning.{looked_up}

abbrev Table : Type 0
Table = List (List ℕ × Word)

abbrev are_numbered : ℕ → Table → Bool
are_numbered i [] = true
are_numbered i (entry ∷ table) = nat_eq (word_number entry.1) i && are_numbered (i + 1) table

found_at : (written : List ℕ) (table : Table) (i : ℕ) → are_numbered i table ≡ true → option_map word_number (looked_up table written) ≡ position_from (same_word written) i (map (λ entry. entry.0) table)
found_at written [] i h = refl
found_at written (entry ∷ table) i h =
    let parts = and_parts (nat_eq (word_number entry.1) i) (are_numbered (i + 1) table) h in
    by (same_word written entry.0) (eqb-true (word_number entry.1) i parts.0) (found_at written table (i + 1) parts.1)
  where
    by : (b : Bool) → word_number entry.1 ≡ i → option_map word_number (looked_up table written) ≡ position_from (same_word written) (i + 1) (map (λ e. e.0) table) → option_map word_number (cond b (Some entry.1) (looked_up table written)) ≡ cond b (Some i) (position_from (same_word written) (i + 1) (map (λ e. e.0) table))
    by true e rest = ap Some e
    by false e rest = rest

abbrev pub words : Table
words = map (λ k. (k.0.now, k.1)) WORDS

words_numbered : are_numbered 0 words ≡ true
words_numbered = refl

words_spelled : map (λ entry. entry.0) words ≡ reserved_words
words_spelled = refl

pub word_found : (written : List ℕ) → option_map word_number (looked_up words written) ≡ word_place written
unfolding word_place
word_found written = found_at written words 0 words_numbered ∙ ap (position_from (same_word written) 0) words_spelled
