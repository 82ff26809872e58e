-- A session that waits and owns what it gives up may take the reply that it is given up.
use Rattle.std.specs.Prelude.{List, [], Option, Some, None, IfSome}
use Rattle.aw_schema.specs.declared.definition.Def.{Def}
use Rattle.mv_core.specs.declared.entry.Reply.TheVariants.{Released}
use Rattle.mv_view.specs.ViewState.{ViewState, AreOwned}
use Rattle.ses_step.specs.declared.command.Command.{Command}
use Rattle.ses_step.specs.declared.command.Command.TheVariants as command
use Rattle.ses_step.specs.declared.session.Known.{Known}
use Rattle.ses_step.specs.declared.session.Session.{Session}
use Rattle.ses_step.specs.Sessions.{Allows, IsReady, given_asked}

none-owned : (view : Option ViewState) → IfSome view (λ v. AreOwned v [])
none-owned None = tt
none-owned (Some view) = tt

given-owned : (s : Known) (asked : Option Command) → IfSome asked (IsReady s) → IfSome s.view (λ view. AreOwned view (given_asked asked))
given-owned s None ready = none-owned s.view
given-owned s (Some (command.Release objects)) ready = ready
given-owned s (Some (command.Attach mode)) ready = none-owned s.view
given-owned s (Some command.Detach) ready = none-owned s.view
given-owned s (Some (command.Acquire keep fresh same)) ready = none-owned s.view
given-owned s (Some (command.Resync objects)) ready = none-owned s.view
given-owned s (Some (command.Revert objects)) ready = none-owned s.view
given-owned s (Some (command.Update objects)) ready = none-owned s.view
given-owned s (Some command.Commit) ready = none-owned s.view
given-owned s (Some (command.Write object cells)) ready = none-owned s.view
given-owned s (Some (command.Show cell)) ready = none-owned s.view
given-owned s (Some (command.Maintain object values)) ready = none-owned s.view

pub released_allowed : (definitions : List Def) (s : Session) → IfSome s.asked (IsReady s.known) → Allows definitions s Released
released_allowed definitions s ready = given-owned s.known s.asked ready
