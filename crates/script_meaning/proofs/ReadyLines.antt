-- What a line asks for its session is ready for, and may ask.
use Rattle.std.specs.Prelude.{ℕ, List}
use Rattle.aw_schema.specs.declared.definition.Def.{Def}
use Rattle.ses_step.specs.declared.command.Asked.{Asked}
use Rattle.ses_step.specs.declared.command.Asked.TheVariants.{Runs, Refused}
use Rattle.ses_step.specs.declared.session.Known.{Known as Session}
use Rattle.ses_step.specs.SessionLines as line
use Rattle.ses_step.specs.SessionLines.{asked}
use Rattle.ses_step.specs.Sessions.{IsReady}
use Rattle.ses_step.proofs.callers.ReadyLines as session
use Rattle.ses_step.proofs.callers.ReadyLines.{IsPermitted, IsPermittedFor}

abbrev pub IsReadyFor : List Def → Session → Asked → Type 0
IsReadyFor definitions s (Refused refusal) = Unit {0}
IsReadyFor definitions s (Runs own) = IsReady s own × IsPermitted definitions s own

both : (definitions : List Def) (s : Session) (a : Asked) → line.IsReadyFor s a → IsPermittedFor definitions s a → IsReadyFor definitions s a
both definitions s (Refused refusal) ready may = tt
both definitions s (Runs own) ready may = (ready, may)

pub asked-ready : (definitions : List Def) (s : Session) (text : List ℕ) (from : ℕ) → IsReadyFor definitions s (asked definitions s text from)
asked-ready definitions s text from =
    both definitions s (asked definitions s text from) (session.asked-ready definitions s text from) (session.asked-permitted definitions s text from)
