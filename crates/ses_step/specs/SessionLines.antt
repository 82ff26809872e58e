-- What a session's line asks for, and how it begins.
use Rattle.std.specs.Prelude.{ℕ, List, Option, Some, None, Result, Ok, Err}
use Rattle.aw_schema.specs.declared.definition.Def.{Def}
use Rattle.dml_tree.specs.declared.statement.Statement.{Statement}
use Rattle.dml_grammar.specs.declared.fault.ParseFault.{ParseFault}
use Rattle.dml_grammar.specs.declared.fault.ParseFault.TheVariants.{Syntax, NotHere, NoMemory}
use Rattle.dml_lines.specs.Lines.{statement_in}
use Rattle.ses_report.specs.declared.refusal.Refusal.{Refusal}
use Rattle.ses_report.specs.Refusals.{no_form, syntax, not_in_a_program, in_line}
use Rattle.ses_step.specs.declared.answer.Answer.TheVariants as answer
use Rattle.ses_step.specs.declared.command.Asked.{Asked}
use Rattle.ses_step.specs.declared.command.Asked.TheVariants.{Runs, Refused}
use Rattle.ses_step.specs.declared.session.Begun.{Begun}
use Rattle.ses_step.specs.declared.session.Begun.TheVariants.{Said}
use Rattle.ses_step.specs.declared.session.Known.{Known}
use Rattle.ses_step.specs.declared.session.Session.{Session}
use Rattle.ses_step.specs.Meant.{meant}
use Rattle.ses_step.specs.Refusing.{statement_refusal}
use Rattle.ses_step.specs.Sessions.{begun, resting, kept_waiting, IsReady}

-- a fault of the tokens or the grammar; want of memory is none
abbrev pub parse_refusal : ParseFault → Refusal
parse_refusal (Syntax line column) = in_line line (syntax column)
parse_refusal (NotHere line) = in_line line not_in_a_program
parse_refusal NoMemory = no_form

abbrev pub asked_unless : List Def → Known → Option Refusal → Statement → Asked
asked_unless definitions s (Some refusal) statement = Refused refusal
asked_unless definitions s None statement = meant definitions s statement

abbrev pub asked_by : List Def → Known → Result Statement ParseFault → Asked
asked_by definitions s (Err fault) = Refused (parse_refusal fault)
asked_by definitions s (Ok statement) = asked_unless definitions s (statement_refusal definitions s statement) statement

-- the command that a line asks for, whose statement stands from this place on, or why it is refused
abbrev pub asked : List Def → Known → List ℕ → ℕ → Asked
asked definitions s line from = asked_by definitions s (statement_in line from)

-- the session is ready for what it asks
abbrev pub IsReadyFor : Known → Asked → Type 0
IsReadyFor s (Refused refusal) = Unit {0}
IsReadyFor s (Runs command) = IsReady s command

-- a refusal leaves the session as it was
abbrev pub begun_as : List Def → Known → Asked → Begun × Session
begun_as definitions s (Refused refusal) = (Said (answer.Refused refusal), resting s)
begun_as definitions s (Runs command) = kept_waiting command (begun definitions s command)

abbrev pub line_begun : List Def → Known → List ℕ → ℕ → Begun × Session
line_begun definitions s line from = begun_as definitions s (asked definitions s line from)
