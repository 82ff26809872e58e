-- What a function value ensures that reads the expressions inside an expression.
use Rattle.std.specs.Prelude.{ℕ, ◌<◌, ◌≤◌, length, Result}
use Rattle.std.specs.declared.alloc.Global.{Global}
use denote.Ref.{MutBor}
use Rattle.dml_tree.specs.declared.expr.Expr.{Expr}
use Rattle.dml_grammar.specs.declared.fault.Fault.{Fault}
use Rattle.dml_cursor.specs.declared.cursor.Tokens.{Tokens}
use Rattle.dml_grammar.specs.Grammar.{expr}
use Rattle.dml_grammar.specs.inside.Tables.{reads}
use Rattle.dml_grammar.specs.inside.Steps.{Read}

-- a function value that reads expressions of fewer tokens than this
pub record Nests (most : ℕ) (pre : Global → MutBor Tokens → Type 0) (post : Global → MutBor Tokens → Result Expr Fault → MutBor Tokens → Type 0) : Type 0 where
  pub callable : (alloc : Global) (old : MutBor Tokens) → length old.now.rest.now < most → pre alloc old
  pub reads_so : (alloc : Global) (old new : MutBor Tokens) (r : Result Expr Fault) → post alloc old r new → Read (reads expr old.now.rest.now) r new.now.rest.now
  pub less : (alloc : Global) (old new : MutBor Tokens) (r : Result Expr Fault) → post alloc old r new → length new.now.rest.now ≤ length old.now.rest.now
