-- What `tokens` promises follows from its one answer.
use Rattle.std.proofs.Common.{◌≡◌, ℕ, ◌⊎◌, inl, inr, refl, ap, subst, List, Result, Ok, Err}
use Rattle.std.specs.Prelude.{IfOk}
use Rattle.dml_tree.specs.LineTokens.{AreTokens, HasFault}
use Rattle.dml_tree.specs.inside.Scanning.{Answers}
use Rattle.dml_tree.specs.declared.token.Token.{Token}
use Rattle.dml_tree.specs.declared.token.TokenFault.{TokenFault}
use Rattle.dml_tree.specs.declared.token.TokenFault.TheVariants.{Lexical, NoMemory}
use Rattle.dml_tree.proofs.Once.{tokens_once, fault_once, tokens_or_fault}

module _ (line : List ℕ) (from : ℕ) where
  pub gives_tokens : (r : Result (List Token) TokenFault) → Answers line from r → IfOk r (λ tokens. AreTokens line from tokens)
  gives_tokens (Ok tokens) h = h
  gives_tokens (Err (Lexical column)) h = tt
  gives_tokens (Err NoMemory) h = tt

  pub gives_all : (r : Result (List Token) TokenFault) → Answers line from r → (tokens : List Token) → AreTokens line from tokens → (r ≡ Ok tokens) ⊎ (r ≡ Err NoMemory)
  gives_all (Ok found) h tokens are = inl (ap Ok (tokens_once line from found tokens h are))
  gives_all (Err (Lexical column)) h tokens are = absurd (tokens_or_fault line from column tokens are h)
  gives_all (Err NoMemory) h tokens are = inr refl

  pub tells_fault : (r : Result (List Token) TokenFault) → Answers line from r → (column : ℕ) → r ≡ Err (Lexical column) → HasFault line from column
  tells_fault (Ok found) h column e = cc
  tells_fault (Err (Lexical at)) h column e = let same : at ≡ column = cc in subst (HasFault line from) same h
  tells_fault (Err NoMemory) h column e = cc

  pub tells_each_fault : (r : Result (List Token) TokenFault) → Answers line from r → (column : ℕ) → HasFault line from column → (r ≡ Err (Lexical column)) ⊎ (r ≡ Err NoMemory)
  tells_each_fault (Ok found) h column fault = absurd (tokens_or_fault line from column found h fault)
  tells_each_fault (Err (Lexical at)) h column fault = inl (ap (λ c. Err (Lexical c)) (fault_once line from at column h fault))
  tells_each_fault (Err NoMemory) h column fault = inr refl
