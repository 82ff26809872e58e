-- The statements by which a session shares the workspace, as commands. What any other statement asks for is told by what its
-- expressions and values come to (Meant).
use Rattle.std.specs.Prelude.{◌+◌, ℕ, List, length, take, drop, Option, Some, None}
use Rattle.dml_tree.specs.declared.statement.Statement.{Statement}
use Rattle.dml_tree.specs.declared.statement.Statement.TheVariants as statement
use Rattle.ses_step.specs.declared.command.Command.{Command}
use Rattle.ses_step.specs.declared.command.Command.TheVariants.{Attach, Detach, Acquire, Resync, Release, Revert, Update, Commit}

-- the lists of an ACQUIRE, of these lengths, one behind the other
abbrev pub acquire_of : ℕ → ℕ → List ℕ → Command
acquire_of keep fresh objects = Acquire (take keep objects) (take fresh (drop keep objects)) (drop (keep + fresh) objects)

-- the objects are those that the statement names outside of expressions, in the order written
abbrev pub command_of : Statement → List ℕ → Option Command
command_of (statement.Attach mode) objects = Some (Attach mode)
command_of statement.Detach objects = Some Detach
command_of (statement.Acquire keep fresh same) objects = Some (acquire_of (length keep) (length fresh) objects)
command_of (statement.Resync names) objects = Some (Resync objects)
command_of (statement.Release names) objects = Some (Release objects)
command_of (statement.Revert names) objects = Some (Revert objects)
command_of (statement.Update names) objects = Some (Update objects)
command_of statement.Commit objects = Some Commit
command_of _ objects = None
