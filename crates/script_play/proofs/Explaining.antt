-- What the status of a run says of the disk and of the answers.
use Rattle.std.specs.Prelude.{◌≡◌, ◌≤◌, ℕ, Bool, true, false, List, [], Option, None, Some, IfSome}
use Rattle.std.proofs.Common.{◌∙◌, sym, subst, ⊎_elim, arith}
use Rattle.aw_lists.specs.Faults.{Rose}
use Rattle.aw_codec.specs.declared.record.Decoded.{Decoded}
use Rattle.aw_store.specs.StoredRecords.{HoldsRecords}
use Rattle.script_world.specs.Worlds.{answers_of, NoneRefused, SomeRefused, script_events}
use Rattle.ses_report.specs.Reports.{Answer}
use Rattle.script_world.specs.Outcomes.{Outcome, Attempt}
use Rattle.script_world.proofs.callers.Refused.{none_refused, some_refused}
use Rattle.script_meaning.specs.Language.{by_history}
use Rattle.script_meaning.specs.Transcript.{opening}
use Rattle.script_disk.specs.declared.opening.Unopened.{Unopened}
use Rattle.script_disk.specs.declared.opening.Unopened.TheVariants as unopened
use Rattle.script_disk.specs.WhyUnopened.{ExplainsContent, status_of as unopened_status}
use Rattle.script_disk.proofs.callers.Completing.{holds_explains, unopened_explains}
use Rattle.script_play.proofs.Completing.{completes_so}
use Rattle.script_play.specs.declared.ending.Ending.{Ending}
use Rattle.script_play.specs.declared.ending.Ending.TheVariants.{Accepted, Refusing, SourceFault, SinkFault, DiskFault, NoMemory, TooLong}
use Rattle.script_play.specs.Runs.{status_of, Streams, Run, IsWhole, EndsSo, Ends, WasOpened, AnswersAll, Plays}

-- a run whose disk was opened ends with neither 7 nor 8
ends-other : (ending : Ending) (other : ℕ) → 7 ≤ other → other ≤ 8 → status_of ending ≡ other → ⊥
ends-other Accepted other from to is = omega (arith, from, to, is)
ends-other Refusing other from to is = omega (arith, from, to, is)
ends-other SourceFault other from to is = omega (arith, from, to, is)
ends-other SinkFault other from to is = omega (arith, from, to, is)
ends-other DiskFault other from to is = omega (arith, from, to, is)
ends-other NoMemory other from to is = omega (arith, from, to, is)
ends-other TooLong other from to is = omega (arith, from, to, is)

opened-explains : (ending : Ending) (content : Option (List ℕ)) (records : List Decoded) → IfSome content (λ image. HoldsRecords image records) → IfSome content (ExplainsContent (status_of ending))
opened-explains ending None records holds = tt
opened-explains ending (Some image) records holds =
    holds_explains (status_of ending) image records holds (ends-other ending 7 (omega arith) (omega arith)) (ends-other ending 8 (omega arith) (omega arith))

-- one that wasn't opened ends with another status than 0 and 1
unopened-other : (why : Unopened) → unopened_status why ≤ 1 → ⊥
unopened-other unopened.Unformatted small = omega (arith, small)
unopened-other (unopened.Damaged offset) small = omega (arith, small)
unopened-other unopened.DiskFault small = omega (arith, small)
unopened-other unopened.NoMemory small = omega (arith, small)
unopened-other unopened.SinkFault small = omega (arith, small)

module _ (s : Streams) (records : List Decoded) (outcomes : List Outcome) (made : List (Attempt Decoded)) (taken : List ℕ) where
  whole-accepted : (ending : Ending) → status_of ending ≡ 0 → EndsSo s records outcomes made taken ending → IsWhole s records outcomes made taken false
  whole-accepted Accepted is ends = ends
  whole-accepted Refusing is ends = let none : ⊥ = omega (arith, is) in absurd none
  whole-accepted SourceFault is ends = let none : ⊥ = omega (arith, is) in absurd none
  whole-accepted SinkFault is ends = let none : ⊥ = omega (arith, is) in absurd none
  whole-accepted DiskFault is ends = let none : ⊥ = omega (arith, is) in absurd none
  whole-accepted NoMemory is ends = let none : ⊥ = omega (arith, is) in absurd none
  whole-accepted TooLong is ends = let none : ⊥ = omega (arith, is) in absurd none

  whole-refusing : (ending : Ending) → status_of ending ≡ 1 → EndsSo s records outcomes made taken ending → IsWhole s records outcomes made taken true
  whole-refusing Refusing is ends = ends
  whole-refusing Accepted is ends = let none : ⊥ = omega (arith, is) in absurd none
  whole-refusing SourceFault is ends = let none : ⊥ = omega (arith, is) in absurd none
  whole-refusing SinkFault is ends = let none : ⊥ = omega (arith, is) in absurd none
  whole-refusing DiskFault is ends = let none : ⊥ = omega (arith, is) in absurd none
  whole-refusing NoMemory is ends = let none : ⊥ = omega (arith, is) in absurd none
  whole-refusing TooLong is ends = let none : ⊥ = omega (arith, is) in absurd none

module _ (r : Run) (status : ℕ) (ends : Ends r status) where
  pub ends_explains : IfSome r.content_before (ExplainsContent status)
  ends_explains = ⊎_elim
      (λ not. subst (λ those. IfSome r.content_before (ExplainsContent those)) (sym not.is) (unopened_explains not.why r.content_before r.streams.written_before r.streams.written_now not.tells))
      (λ was. subst (λ those. IfSome r.content_before (ExplainsContent those)) (sym was.is) (opened-explains was.ending r.content_before was.records was.holds)) ends

  -- a script that was read and answered to its end
  whole-answers : (refused : Bool) (P : List (Option Answer) → Type 0) (was : WasOpened r status) → IsWhole r.streams was.records was.outcomes was.made was.taken refused → P (answers_of (by_history was.outcomes) (opening [] was.records) (script_events was.taken)) → AnswersAll r P
  whole-answers refused P was whole said = record {
    records = was.records;
    holds = was.holds;
    taken = was.taken;
    gives = was.gives;
    at_end = whole.at_end;
    outcomes = was.outcomes;
    wrote = whole.wrote;
    answers = said;
  }

  pub ends_accepted : status ≡ 0 → AnswersAll r NoneRefused
  ends_accepted zero = ⊎_elim (λ not. absurd (unopened-other not.why (omega (arith, not.is, zero)))) (λ was.
      let whole = whole-accepted r.streams was.records was.outcomes was.made was.taken was.ending (sym was.is ∙ zero) was.ends_so in
      whole-answers false NoneRefused was whole (none_refused (by_history was.outcomes) (opening [] was.records) (script_events was.taken) whole.refuses)) ends

  pub ends_refusing : status ≡ 1 → AnswersAll r SomeRefused
  ends_refusing one = ⊎_elim (λ not. absurd (unopened-other not.why (omega (arith, not.is, one)))) (λ was.
      let whole = whole-refusing r.streams was.records was.outcomes was.made was.taken was.ending (sym was.is ∙ one) was.ends_so in
      whole-answers true SomeRefused was whole (some_refused (by_history was.outcomes) (opening [] was.records) (script_events was.taken) whole.refuses)) ends

  -- what a run does, with what each fault counts
  pub plays_so : ((image : List ℕ) → r.content_before ≡ Some image → r.crash_before r.clock_before image) → (status ≡ 3 → Rose r.stream_faults.source_before r.stream_faults.source_now) → (status ≡ 4 → Rose r.stream_faults.sink_before r.stream_faults.sink_now) → (status ≡ 5 → Rose r.faults_before r.faults_now) → Plays r status
  plays_so is_image source_cause sink_cause disk_cause = record {
    ends = ends;
    completes = λ formatted told source sink disk. completes_so r status ends formatted is_image told (λ three. source (source_cause three)) (λ four. sink (sink_cause four)) (λ five. disk (disk_cause five)) disk;
    explains = ends_explains;
    accepted = ends_accepted;
    refused = ends_refusing;
  }
