-- The clauses of the public answers follow from what was read.
use Rattle.std.specs.Prelude.{ℕ, ◌≡◌, ◌⊎◌, List, Result, Ok, Err, IfOk}
use Rattle.std.proofs.Common.{ap, ◌∙◌, inl, inr}
use Rattle.dml_grammar.specs.declared.placed.Placed.{Placed}
use Rattle.dml_grammar.specs.declared.fault.ParseFault.{ParseFault}
use Rattle.dml_grammar.specs.declared.fault.ParseFault.TheVariants as p
use Rattle.dml_grammar.specs.Grammar.{Part, Value}
use Rattle.dml_grammar.specs.Sentences.{Is, IsRefusedAt}
use Rattle.dml_grammar.specs.inside.Answering.{IsTold}
use Rattle.dml_grammar.proofs.callers.Answering.{one_tree, not_refused, one_refusal}

pub accepted : (n : Part) (told : ℕ → ParseFault) (xs : List Placed) (r : Result (Value n) ParseFault) → IsTold n told xs r → IfOk r (λ t. Is n xs t)
accepted n told xs (Ok v) a = a
accepted n told xs (Err f) a = tt

pub exact : (n : Part) (told : ℕ → ParseFault) (xs : List Placed) (r : Result (Value n) ParseFault) → IsTold n told xs r → (t : Value n) → Is n xs t → (r ≡ Ok t) ⊎ (r ≡ Err p.NoMemory)
exact n told xs (Ok v) a t is = inl (ap (λ (w : Value n). Ok w) (one_tree n xs v t a is))
exact n told xs (Err f) (inl e) t is = inr (ap (λ (g : ParseFault). Err g) e)
exact n told xs (Err f) (inr (k, refusal, e)) t is = absurd (not_refused n xs k t refusal is)

pub refused : (n : Part) (told : ℕ → ParseFault) (xs : List Placed) (r : Result (Value n) ParseFault) → IsTold n told xs r → (k : ℕ) → IsRefusedAt n xs k → (r ≡ Err (told k)) ⊎ (r ≡ Err p.NoMemory)
refused n told xs (Ok v) a k refusal = absurd (not_refused n xs k v refusal a)
refused n told xs (Err f) (inl e) k refusal = inr (ap (λ (g : ParseFault). Err g) e)
refused n told xs (Err f) (inr (j, was, e)) k refusal =
    inl (ap (λ (g : ParseFault). Err g) (e ∙ ap (λ (i : ℕ). told i) (one_refusal n xs j k was refusal)))

pub cause : (n : Part) (told : ℕ → ParseFault) (xs : List Placed) (r : Result (Value n) ParseFault) → IsTold n told xs r → (f : ParseFault) → r ≡ Err f → (f ≡ p.NoMemory) ⊎ ((k : ℕ) × IsRefusedAt n xs k × (f ≡ told k))
cause n told xs (Ok v) a f e = absurd cc
cause n told xs (Err g) (inl e) f same = inl cc
cause n told xs (Err g) (inr (k, refusal, e)) f same = let is : f ≡ g = cc in inr (k, refusal, is ∙ e)

pub at_place : (n : Part) (told : ℕ → ParseFault) (xs : List Placed) (k : ℕ) (f : ParseFault) → f ≡ told k → IsRefusedAt n xs k → IsTold n told xs (Err f)
at_place n told xs k f e refusal = inr (k, refusal, e)
