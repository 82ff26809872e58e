-- What a function answers that reads lines: what the lines say, or want of memory.
use Rattle.std.specs.Prelude.{◌≡◌, ◌⊎◌, ◌++◌, List, Result, Ok, Err}
use Rattle.dml_tree.specs.declared.token.Token.{Token}
use Rattle.dml_grammar.specs.declared.fault.ParseFault.{ParseFault}
use Rattle.dml_grammar.specs.declared.fault.ParseFault.TheVariants.{NoMemory}
use Rattle.dml_lines.specs.Lines.{Front}

abbrev pub Tells : {A : Type 0} → Result A ParseFault → Result A ParseFault → Type 0
Tells said (Ok value) = said ≡ Ok value
Tells said (Err fault) = (fault ≡ NoMemory) ⊎ (said ≡ Err fault)

-- lines of tokens in front of others
abbrev pub behind : List (List Token) → Front → Front
behind lines front = record { tokens = lines ++ front.tokens; fault = front.fault }
