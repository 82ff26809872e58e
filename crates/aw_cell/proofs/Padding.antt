-- Texts before their zeros.
use Rattle.std.specs.Prelude.{ℕ, ◌≡◌, ◌≤◌, ◌-◌, ◌++◌, List, length, replicate, refl, IsTrue}
use Rattle.std.proofs.Common.{◌∙◌, ap, sym, subst, arith}
use Rattle.std.proofs.lemmas.List.{length-append, length-replicate, take_at, drop_at}
use Rattle.aw_cell.specs.Text.{is_text}
use Rattle.aw_cell.specs.inside.PaddedText.{IsPadded}

-- a text and then zeros up to 64 bytes
pub IsPadded-append : (text rest : List ℕ) → length text ≤ 64 → IsTrue (is_text text) → rest ≡ replicate (64 - length text) 0 → IsPadded (text ++ rest) (length text)
IsPadded-append text rest fits is_one zeros =
    let length_rest : length rest ≡ 64 - length text = ap length zeros ∙ length-replicate (64 - length text) 0 in
    record {
      size = length-append text rest ∙ omega arith;
      fits = fits;
      text = subst (λ l. IsTrue (is_text l)) (sym (take_at text rest (length text) refl)) is_one;
      rest = drop_at text rest (length text) refl ∙ zeros;
    }
