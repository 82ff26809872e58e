-- What a function that reads a part ensures.
use Rattle.std.specs.Prelude.{Bool, ◌≡◌, List, [], ◌∷◌, Result, Ok, Err}
use Rattle.dml_tree.specs.declared.token.Sort.{Sort}
use Rattle.dml_grammar.specs.declared.placed.Placed.{Placed}
use Rattle.dml_grammar.specs.declared.fault.Fault.{Fault}
use Rattle.dml_grammar.specs.declared.fault.Fault.TheVariants.{Syntax, NoMemory}
use Rattle.dml_forms.specs.Forms.{goes}
use Rattle.dml_forms.specs.inside.LookAhead.{Outcome, found, fault, one_of}
use Rattle.dml_grammar.specs.Sorts.{sort, number}

-- the result and the tokens left are this outcome
abbrev pub Read : {A : Type 0} → Outcome Placed A → Result A Fault → List Placed → Type 0
Read o (Ok a) new = o ≡ found a new
Read o (Err Syntax) new = o ≡ fault new
Read o (Err NoMemory) new = Unit {0}

-- a token of this sort comes
abbrev pub comes : Sort → List Placed → Bool
comes s xs = goes sort (number s ∷ []) xs

-- a token of this sort is taken
abbrev pub expected : Sort → List Placed → Outcome Placed Placed
expected s xs = one_of sort (number s ∷ []) xs
