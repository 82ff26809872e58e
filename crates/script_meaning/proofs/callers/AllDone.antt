-- Where all outcomes are done, none of them matters.
use Rattle.std.specs.Prelude.{◌≡◌, ◌+◌, ℕ, zero, suc, cond, List, [], ◌∷◌, refl}
use Rattle.std.specs.List.{count_by}
use Rattle.std.proofs.Common.{◌∙◌, sym, arith}
use Rattle.std.proofs.lemmas.List.Elements.{All-nil, All-cons, All-head, All-tail}
use Rattle.std.proofs.lemmas.List.Sums.{sum_by-append}
use Rattle.aw_codec.specs.declared.record.Decoded.{Decoded}
use Rattle.script_world.specs.Worlds.{Event, script_events}
use Rattle.script_world.specs.Outcomes.{Outcome, done, faulted, among, has_faulted, AreDone}
use Rattle.script_world.proofs.callers.UnusedOutcomes.{all_done}
use Rattle.script_meaning.specs.AllDone.{IsAsWithNone}
use Rattle.script_meaning.specs.Language.{store_writing, history_machine}
use Rattle.script_meaning.specs.Transcript.{opening, transcript}

pub none_faulted : (outcomes : List Outcome) → count_by has_faulted outcomes ≡ 0 → AreDone outcomes
none_faulted [] none = All-nil (λ outcome. outcome ≡ done)
none_faulted (done ∷ outcomes) none =
    All-cons (λ outcome. outcome ≡ done) done outcomes refl (none_faulted outcomes (omega (arith, none)))
none_faulted (faulted ∷ outcomes) none =
    let parts : count_by has_faulted (faulted ∷ outcomes) ≡ count_by has_faulted (faulted ∷ []) + count_by has_faulted outcomes = sum_by-append (λ (outcome : Outcome). cond (has_faulted outcome) 1 0) (faulted ∷ []) outcomes in
    let first : count_by has_faulted (faulted ∷ []) ≡ 1 = refl in
    absurd (omega (arith, parts, first, none))

among-done : (outcomes : List Outcome) → AreDone outcomes → (at : ℕ) → among outcomes at ≡ done
among-done [] all at = refl
among-done (outcome ∷ outcomes) all zero = All-head (λ outcome. outcome ≡ done) outcome outcomes all
among-done (outcome ∷ outcomes) all (suc at) = among-done outcomes (All-tail (λ outcome. outcome ≡ done) outcome outcomes all) at

none_left : (at : ℕ) → among [] at ≡ done
none_left at = refl

pub as_with_none : (names : List (List ℕ)) (records : List Decoded) (outcomes : List Outcome) (events : List Event) → AreDone outcomes → IsAsWithNone names records outcomes events
as_with_none names records outcomes events all =
    let w = opening names records in
    let one = all_done store_writing history_machine w (among outcomes) events (among-done outcomes all) in
    let other = all_done store_writing history_machine w (among []) events none_left in
    record { text = sym other.text ∙ one.text; refused = sym other.refused ∙ one.refused; world = sym other.world ∙ one.world }

pub transcript_as_with_none : (names : List (List ℕ)) (records : List Decoded) (outcomes : List Outcome) (script : List ℕ) → AreDone outcomes → transcript names records outcomes script ≡ transcript names records [] script
transcript_as_with_none names records outcomes script all = sym (as_with_none names records outcomes (script_events script) all).text
