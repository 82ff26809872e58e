-- What a session's line is answered is one line, and a commit that was done is answered otherwise than one that met a fault.
use Rattle.std.specs.Prelude.{◌≡◌, ◌≢◌, ◌++◌, ℕ, Bool, true, false, List, [], ◌∷◌, codes, Some, None, IsSome, if◌then◌else◌, refl}
use Rattle.std.proofs.Common.{◌∙◌, ap, sym, subst, arith, append_assoc, append-nil}
use Rattle.std.proofs.lemmas.Bool.{true≢false}
use Rattle.std.proofs.lemmas.List.{append_cancel_left}
use Rattle.aw_schema.specs.declared.definition.Def.{Def}
use Rattle.aw_codec.specs.declared.record.Decoded.{Decoded}
use Rattle.mv_core.specs.declared.entry.Entry.{Entry}
use Rattle.mv_core.specs.declared.entry.Reply.{Reply}
use Rattle.mv_core.specs.declared.entry.Reply.TheVariants.{Fault}
use Rattle.mv_core.specs.SharedStep.{writes}
use Rattle.aw_store.specs.Stores.{record_of}
use Rattle.ses_report.specs.Refusals.{disk_fault}
use Rattle.ses_report.specs.Reports.{prefix_text, line_under, answer_text, refusal_text}
use Rattle.ses_step.specs.declared.answer.Answer.{Answer}
use Rattle.ses_step.specs.declared.answer.Answer.TheVariants.{Done, Shown, Refused}
use Rattle.ses_step.specs.declared.command.Asked.{Asked}
use Rattle.ses_step.specs.declared.command.Asked.TheVariants as asks
use Rattle.ses_step.specs.declared.session.Begun.{Begun}
use Rattle.ses_step.specs.declared.session.Begun.TheVariants.{Said, Ask}
use Rattle.ses_step.specs.declared.session.Known.{Known as Session}
use Rattle.ses_step.specs.declared.session.Session.{Session as Waiting}
use Rattle.ses_step.specs.Answers.{answer_of}
use Rattle.ses_step.specs.SessionLines.{asked, begun_as}
use Rattle.ses_step.specs.Sessions.{finished}
use Rattle.script_world.specs.Laws.{lines_in, TextFixesWorld}
use Rattle.script_world.specs.Meaning as world
use Rattle.script_world.specs.Outcomes.{Outcome, among}
use Rattle.script_world.specs.Worlds.{Event}
use Rattle.script_world.proofs.callers.NoSession.{Speaks}
use Rattle.script_world.proofs.callers.Fixing.{TellsApart, text_fixes_world}
use Rattle.script_meaning.specs.LineAnswers.{IsOneLine}
use Rattle.script_meaning.specs.Language.{store_writing, history_machine, begun_of, begin_asked, finish, by_history}
use Rattle.script_meaning.specs.Transcript.{opening}
use Rattle.script_meaning.proofs.Records.{writing-grants}

one-line : (given : Answer) → lines_in (answer_of given) ≡ 1
one-line Done = refl
one-line (Shown cell) = refl
one-line (Refused refusal) = refl

abbrev OneLineOf : world.Begun Entry Session Waiting → Type 0
OneLineOf (world.said answer session) = lines_in answer ≡ 1
OneLineOf (world.ask asked waiting) = Unit {0}

one-begun : (first : Begun) (session : Waiting) → OneLineOf (begun_of (first, session))
one-begun (Said answer) session = one-line answer
one-begun (Ask asked) session = tt

one-asked : (d : List Def) (s : Session) (a : Asked) → OneLineOf (begin_asked d s a)
one-asked d s (asks.Refused refusal) = refl
one-asked d s (asks.Runs own) =
    let b = begun_as d s (asks.Runs own) in
    one-begun b.0 b.1

pub speaks : (coming : List Outcome) → Speaks (by_history coming) IsOneLine
speaks coming = record {
  begins = λ d s statement answer after is. subst OneLineOf is (one-asked d s (asked d s statement.line statement.from));
  finishes = λ d names waiting reply. one-line (finished d names waiting reply).0;
  crowded = refl;
}

-- ---- done or faulted

abbrev first : List ℕ → ℕ
first [] = 0
first (b ∷ bytes) = b

under : (prefix one other x y : List ℕ) → line_under prefix one ++ x ≡ line_under prefix other ++ y → (one ++ 10 ∷ []) ++ x ≡ (other ++ 10 ∷ []) ++ y
under prefix one other x y same =
    append_cancel_left (prefix_text prefix) _ _ (sym (append_assoc (prefix_text prefix) (one ++ 10 ∷ []) x) ∙ same ∙ append_assoc (prefix_text prefix) (other ++ 10 ∷ []) y)

done-or-fault : (prefix x y : List ℕ) → answer_text prefix (answer_of Done) ++ x ≢ answer_text prefix (answer_of (Refused disk_fault)) ++ y
done-or-fault prefix x y same =
    let okay : (line_under prefix (codes "ok") ++ []) ++ [] ≡ line_under prefix (codes "ok") = append-nil (line_under prefix (codes "ok") ++ []) ∙ append-nil (line_under prefix (codes "ok")) in
    let bytes = under prefix (codes "ok") (refusal_text disk_fault) x y (ap (λ text. text ++ x) (sym okay) ∙ same) in
    let heads : 111 ≡ 69 = ap first bytes in
    absurd (omega (arith, heads))

written_where : (test : Bool) (it : Decoded) → IsSome (if test then Some it else None) → test ≡ true
written_where true it some = refl
written_where false it some = absurd (true≢false (sym some))

tells_apart : TellsApart store_writing history_machine
tells_apart = record {
  apart = λ d names waiting asked reply prefix x y some.
      let is = (writing-grants asked reply (written_where (writes asked reply) (record_of asked) some)).reply_is in
      subst (λ (those : Reply). answer_text prefix (finish d names waiting those).0 ++ x ≢ answer_text prefix (finish d names waiting Fault).0 ++ y) (sym is) (done-or-fault prefix x y);
}

pub text_fixes_outcomes : (names : List (List ℕ)) (records : List Decoded) (one other : List Outcome) (events : List Event) → TextFixesWorld store_writing history_machine (among one) (among other) (opening names records) events
text_fixes_outcomes names records one other events = text_fixes_world store_writing history_machine tells_apart (among one) (among other) (opening names records) events
