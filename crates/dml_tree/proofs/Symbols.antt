-- Symbols are the longest tokens at their place.
use Rattle.std.proofs.Common.{◌≡◌, ◌≢◌, ◌≤◌, ◌<◌, ℕ, zero, suc, ◌∙◌, ap, sym, arith, false, List, [], ◌∷◌, length, take, length-take-le}
use Rattle.std.specs.Prelude.{Some, slice_get}
use Rattle.std.specs.Char.{is_ascii_digit}
use Rattle.aw_cell.specs.Names.{is_letter, begins_with}
use Rattle.dml_tree.specs.Spelling.{symbol_byte, HasForm}
use Rattle.dml_tree.specs.LineTokens.{IsNext}
use Rattle.dml_tree.specs.inside.Scanning.{NoneIsNext}
use Rattle.dml_tree.specs.declared.token.Symbol.{Symbol}
use Rattle.dml_tree.specs.declared.token.Lexeme.TheVariants as lexeme
use Rattle.dml_tree.proofs.Forms.{is_quote, begins-take, symbol_form, spelled_form}

pub record BeginsLikeASymbol (bytes : List ℕ) (b : ℕ) : Type 0 where
  pub first : Some b ≡ slice_get bytes 0
  pub no_letter : begins_with is_letter bytes ≡ false
  pub no_digit : begins_with is_ascii_digit bytes ≡ false
  pub no_quote : begins_with is_quote bytes ≡ false

form_here : (bytes : List ℕ) (b len : ℕ) → BeginsLikeASymbol bytes b → 0 < len → HasForm (take len bytes) → (s : Symbol) × (take len bytes ≡ symbol_byte s ∷ [])
form_here bytes b len h some form =
    symbol_form (take len bytes) (begins-take is_letter bytes len some ∙ h.no_letter) (begins-take is_ascii_digit bytes len some ∙ h.no_digit)
    (begins-take is_quote bytes len some ∙ h.no_quote) form

first_of_take : (bytes : List ℕ) (b c len : ℕ) → 0 < len → Some b ≡ slice_get bytes 0 → take len bytes ≡ c ∷ [] → c ≡ b
first_of_take bytes b c zero some first e = absurd (omega arith)
first_of_take [] b c (suc len) some first e = cc
first_of_take (x ∷ xs) b c (suc len) some first e = let here : x ≡ c = cc in let there : b ≡ x = cc in sym here ∙ sym there

first_alone : (bytes : List ℕ) (b : ℕ) → Some b ≡ slice_get bytes 0 → (take 1 bytes ≡ b ∷ []) × (1 ≤ length bytes)
first_alone [] b first = cc
first_alone (x ∷ xs) b first = let here : x ≡ b = cc in (ap (λ y. y ∷ []) here, omega arith)

pub symbol_is_next : (bytes : List ℕ) (b : ℕ) (s : Symbol) → BeginsLikeASymbol bytes b → symbol_byte s ≡ b → IsNext bytes (lexeme.Symbol s) 1
symbol_is_next bytes b s h e =
    let alone = first_alone bytes b h.first in
    record {
      some = omega arith;
      within = alone.1;
      spelled = alone.0 ∙ ap (λ y. y ∷ []) (sym e);
      longest = λ longer more most form.
          let here = form_here bytes b longer h (omega arith) form in
          let one : length (take longer bytes) ≡ 1 = ap length here.1 in
          let size = length-take-le longer bytes most in
          omega arith;
    }

pub no_symbol : (bytes : List ℕ) (b : ℕ) → BeginsLikeASymbol bytes b → ((s : Symbol) → symbol_byte s ≢ b) → NoneIsNext bytes
no_symbol bytes b h none what len next =
    let here = form_here bytes b len h next.some (spelled_form what (take len bytes) next.spelled) in
    none here.0 (first_of_take bytes b (symbol_byte here.0) len next.some h.first here.1)
