-- What the functions that read a whole part ensure.
use Rattle.std.specs.Prelude.{ℕ, ◌≡◌, ◌⊎◌, nat_eq, cond, List, Result, Ok, Err}
use Rattle.dml_grammar.specs.declared.placed.Placed.{Placed}
use Rattle.dml_grammar.specs.declared.fault.Fault.{Fault}
use Rattle.dml_grammar.specs.declared.fault.Fault.TheVariants as read
use Rattle.dml_grammar.specs.declared.fault.ParseFault.{ParseFault}
use Rattle.dml_grammar.specs.declared.fault.ParseFault.TheVariants as fault
use Rattle.dml_grammar.specs.declared.refusals.Refusal.{Refusal}
use Rattle.dml_grammar.specs.declared.refusals.Refusal.TheVariants.{At, NoMemory}
use Rattle.dml_grammar.specs.Grammar.{Part, Value}
use Rattle.dml_grammar.specs.Sentences.{Is, IsRefusedAt}

-- the answer for so many tokens, of which the ones up to this place were read
abbrev pub settled : {A : Type 0} → Result A Fault → ℕ → ℕ → Result A Refusal
settled (Ok v) at all = cond (nat_eq at all) (Ok v) (Err (At at))
settled (Err read.Syntax) at all = Err (At at)
settled (Err read.NoMemory) at all = Err NoMemory

-- a value is this part's, and a place is where the tokens are refused
abbrev pub IsAnswered : (n : Part) → List Placed → Result (Value n) Refusal → Type 0
IsAnswered n xs (Ok v) = Is n xs v
IsAnswered n xs (Err (At k)) = IsRefusedAt n xs k
IsAnswered n xs (Err NoMemory) = Unit {0}

-- the same of a public answer, where a refusal at a place is told as this fault
abbrev pub IsTold : (n : Part) → (ℕ → ParseFault) → List Placed → Result (Value n) ParseFault → Type 0
IsTold n told xs (Ok v) = Is n xs v
IsTold n told xs (Err f) = (f ≡ fault.NoMemory) ⊎ ((k : ℕ) × IsRefusedAt n xs k × (f ≡ told k))
