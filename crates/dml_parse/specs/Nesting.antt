-- What a function value ensures that reads the steps of the blocks inside a step.
use Rattle.std.specs.Prelude.{ℕ, ◌<◌, ◌≤◌, List, [], length, Result}
use Rattle.std.specs.declared.alloc.Global.{Global}
use denote.Ref.{MutBor}
use Rattle.dml_tree.specs.declared.definition.Step.{Step}
use Rattle.dml_grammar.specs.declared.fault.Fault.{Fault}
use Rattle.dml_cursor.specs.declared.cursor.Tokens.{Tokens}
use Rattle.dml_grammar.specs.Grammar.{steps}
use Rattle.dml_grammar.specs.inside.Tables.{reads}
use Rattle.dml_grammar.specs.inside.Steps.{Read}

-- a function value that reads the steps of blocks of fewer tokens than this
pub record NestsSteps (most : ℕ) (pre : Global → MutBor Tokens → Type 0) (post : Global → MutBor Tokens → Result (List Step) Fault → MutBor Tokens → Type 0) : Type 0 where
  pub callable : (alloc : Global) (old : MutBor Tokens) → length old.now.rest.now < most → pre alloc old
  pub reads_so : (alloc : Global) (old new : MutBor Tokens) (r : Result (List Step) Fault) → post alloc old r new → Read (reads (steps []) old.now.rest.now) r new.now.rest.now
  pub less : (alloc : Global) (old new : MutBor Tokens) (r : Result (List Step) Fault) → post alloc old r new → length new.now.rest.now ≤ length old.now.rest.now
