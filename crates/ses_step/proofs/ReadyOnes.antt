-- A session that begins a line is ready for the command that it asks for, and for the reply to it.
use Rattle.std.specs.Prelude.{ℕ, ◌≡◌, List, IfSome, IfOk, Result, Ok, Err}
use Rattle.std.proofs.Common.{sym, subst}
use Rattle.aw_schema.specs.declared.definition.Def.{Def}
use Rattle.ses_step.specs.declared.command.Asked.TheVariants.{Runs}
use Rattle.ses_step.specs.declared.command.Command.{Command}
use Rattle.ses_step.specs.declared.session.Begun.{Begun}
use Rattle.ses_step.specs.declared.session.Begun.TheVariants.{Said, Ask}
use Rattle.ses_step.specs.declared.session.Known.{Known}
use Rattle.ses_step.specs.declared.session.Session.{Session}
use Rattle.ses_step.specs.SessionLines.{asked, IsReadyFor}
use Rattle.ses_step.specs.Sessions.{begun, kept_waiting, IsReady}
use Rattle.ses_step.proofs.Begins.{begun-cases, sharing-cases}
use Rattle.ses_step.proofs.callers.ReadyLines.{asked-ready}

-- the command that a line asks for
pub line_ready : (definitions : List Def) (s : Known) (line : List ℕ) (from : ℕ) (own : Command) → Runs own ≡ asked definitions s line from → IsReady s own
line_ready definitions s line from own is = subst (IsReadyFor s) (sym is) (asked-ready definitions s line from)

-- a session that waits is ready for the reply
module _ (definitions : List Def) (s : Known) (own : Command) (is : IsReady s own) where
  abbrev WaitsReady : Begun × Session → Type 0
  WaitsReady after = IfSome after.1.asked (IsReady after.1.known)

  abbrev StaysReady : Begun × Known → Type 0
  StaysReady b = WaitsReady (kept_waiting own b)

  asks-ready : (b : Begun) → StaysReady (b, s)
  asks-ready (Said answer) = tt
  asks-ready (Ask entry) = is

  begun-ready : WaitsReady (kept_waiting own (begun definitions s own))
  begun-ready =
      begun-cases StaysReady definitions s asks-ready (λ view there object cells room. tt)
      (λ view there. sharing-cases StaysReady s view asks-ready (λ objects. tt) (λ objects. tt) (λ objects. tt) (λ object values. tt))
      own

  pub run_ready : {E : Type 0} (result : Result Begun E) (after : Session) → IfOk result (λ b. (b, after) ≡ kept_waiting own (begun definitions s own)) → IfOk result (λ b. IfSome after.asked (IsReady after.known))
  run_ready (Err e) after so = tt
  run_ready (Ok b) after so = subst WaitsReady (sym so) begun-ready
