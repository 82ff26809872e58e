-- What a reading function promises follows from its one answer.
use Rattle.std.specs.Prelude.{◌≡◌, ◌⊎◌, Result, Ok, Err, IfOk}
use Rattle.std.proofs.Common.{subst}
use Rattle.dml_grammar.specs.declared.fault.ParseFault.{ParseFault}
use Rattle.dml_grammar.specs.declared.fault.ParseFault.TheVariants.{NoMemory}
use Rattle.dml_lines.specs.inside.Telling.{Tells}

module _ {A : Type 0} (said : Result A ParseFault) where
  pub value : (r : Result A ParseFault) → Tells said r → IfOk r (λ v. said ≡ Ok v)
  value (Ok v) told = told
  value (Err f) told = tt

  pub fault : (r : Result A ParseFault) → Tells said r → (f : ParseFault) → r ≡ Err f → (f ≡ NoMemory) ⊎ (said ≡ Err f)
  fault (Ok v) told f e = cc
  fault (Err g) told f e = let same : g ≡ f = cc in subst (λ (h : ParseFault). (h ≡ NoMemory) ⊎ (said ≡ Err h)) same told
