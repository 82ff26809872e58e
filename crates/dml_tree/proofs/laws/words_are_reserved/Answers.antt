use Rattle.std.proofs.Common.{◌≡◌, ◌∙◌, ℕ, List, ap}
use Rattle.std.specs.Str.{bytes_eq}
use Rattle.std.specs.List.{position_from}
use Rattle.std.proofs.lemmas.Slice.Eq.{bytes_eq-Decides}
use Rattle.aw_cell.specs.Names.{is_name, lowercase, reserved_words}
use Rattle.dml_tree.specs.Words.{word_place}
use Rattle.dml_tree.proofs.Once.{word_no_name, never}
use Rattle.dml_tree.proofs.laws.words_are_reserved.Goals as goal

same_place : (one other : List ℕ) → lowercase one ≡ lowercase other → word_place one ≡ word_place other
unfolding word_place
same_place one other e = ap (λ (letters : List ℕ). position_from (λ word. bytes_eq letters (lowercase word)) 0 reserved_words) e

pub returns : goal.returns
returns c = record {
  no_name = λ word bytes spells. never (is_name bytes) (word_no_name bytes _ spells.place);
  any_case = λ word bytes other spells form same. record { form = form; place = same_place other bytes ((bytes_eq-Decides (lowercase other) (lowercase bytes)).0 same) ∙ spells.place };
}
