-- What holds of the grammar and its limits.
use Rattle.std.specs.Prelude.{ℕ, ◌≡◌, List}
use Rattle.dml_grammar.specs.declared.placed.Placed.{Placed}
use Rattle.dml_grammar.specs.Grammar.{Part, Value}
use Rattle.dml_grammar.specs.Sentences.{Is, IsRefusedAt}

-- Tokens are each part of the grammar, a statement and a definition among them, in one way at most.
abbrev pub OneTree : Type 0
OneTree = (n : Part) (xs : List Placed) (v w : Value n) → Is n xs v → Is n xs w → v ≡ w

-- Tokens that are refused as a part aren't that part, and are refused at one place alone.
abbrev pub OneRefusal : Type 0
OneRefusal = (n : Part) (xs : List Placed) (j k : ℕ) → IsRefusedAt n xs k → ((v : Value n) → Is n xs v → ⊥) × (IsRefusedAt n xs j → j ≡ k)
