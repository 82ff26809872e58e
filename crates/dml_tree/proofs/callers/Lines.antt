-- What the function of a line's tokens gives.
use Rattle.std.proofs.Common.{◌≡◌, ◌≤◌, ℕ, ap, List, length, Ok, Err}
use Rattle.dml_tree.specs.LineTokens.{AreTokens, HasFault}
use Rattle.dml_tree.specs.Laws.{IsReadSo}
use Rattle.dml_tree.specs.TokensIn.{TokensRead, tokens_in}
use Rattle.dml_tree.specs.declared.token.Token.{Token}
use Rattle.dml_tree.specs.declared.token.TokenFault.TheVariants.{Lexical, NoMemory}
use Rattle.dml_tree.proofs.Once.{tokens_once, fault_once, tokens_or_fault}
pub use Rattle.dml_tree.proofs.TokensFound.{each_read}

module _ (line : List ℕ) (from : ℕ) (within : from ≤ length line) where
  by_tokens : (tokens : List Token) → AreTokens line from tokens → (r : TokensRead) → IsReadSo line from r → r ≡ Ok tokens
  by_tokens tokens are (Ok found) so = ap (λ (l : List Token). Ok l) (tokens_once line from found tokens so are)
  by_tokens tokens are (Err (Lexical column)) so = absurd (tokens_or_fault line from column tokens are so)
  by_tokens tokens are (Err NoMemory) so = absurd so

  by_fault : (column : ℕ) → HasFault line from column → (r : TokensRead) → IsReadSo line from r → r ≡ Err (Lexical column)
  by_fault column fault (Ok found) so = absurd (tokens_or_fault line from column found so fault)
  by_fault column fault (Err (Lexical at)) so = ap (λ (c : ℕ). Err (Lexical c)) (fault_once line from at column so fault)
  by_fault column fault (Err NoMemory) so = absurd so

  pub tokens_are : (tokens : List Token) → AreTokens line from tokens → tokens_in line from ≡ Ok tokens
  tokens_are tokens are = by_tokens tokens are (tokens_in line from) (each_read line from within)

  pub fault_is : (column : ℕ) → HasFault line from column → tokens_in line from ≡ Err (Lexical column)
  fault_is column fault = by_fault column fault (tokens_in line from) (each_read line from within)
