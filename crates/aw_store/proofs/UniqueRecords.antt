-- Each image reads as records in some way, and in one way alone.
use Rattle.std.proofs.Common.{ℕ, ◌≡◌, ◌⊎◌, ◌+◌, ◌<◌, ◌++◌, ◌∷◌, [], ◌&&◌, true, List, length, map, get_or, All, refl, ap, ap₂, sym, subst, ◌∙◌, inl, inr, arith, append_assoc, append-nil, length-append}
use Rattle.std.specs.List.{list_all}
use Rattle.std.proofs.lemmas.Bool.{and_parts, and_from, cases_Bool, cases_lt}
use Rattle.std.proofs.lemmas.List.{map-append, get_or_default, get_or_append_left, get_or-append-add}
use Rattle.aw_schema.specs.declared.definition.Def.{Def}
use Rattle.aw_body.specs.declared.change.Change.{Change}
use Rattle.aw_codec.specs.declared.record.Decoded.{Decoded}
use Rattle.aw_codec.specs.declared.record.Decoded.TheVariants.{Definitions, Commit}
use Rattle.aw_codec.specs.Records.{spelled, IsRecord}
use Rattle.aw_journal.specs.Format.{head, frames, size_bytes, Holds, IsUnformatted}
use Rattle.aw_journal.specs.Laws.{ReadsOneWay}
use Rattle.aw_journal.proofs.callers.Each.{reads_some_way}
use Rattle.aw_journal.proofs.callers.Unique.{reads_one_way}
use Rattle.aw_store.specs.StoredRecords.{are_replayed, are_accepted_after, fits_latest, are_commits_after, can_replay, IsStored, AreRecords, HoldsRecords, IsDamaged}
use Rattle.aw_store.specs.inside.PayloadRecords.{record_from}
use Rattle.aw_store.specs.inside.ReplaySteps.{IsNoNext}
use Rattle.aw_store.specs.Laws.{ReadsRecords, ReadsRecordsOneWay}
use Rattle.aw_codec.proofs.CallerLemmas.{spelling_or_fault}
use Rattle.aw_store.proofs.callers.Following.{not_both}
use Rattle.aw_store.proofs.callers.Spellings.{record_from-spelled, AreRecords-append}

-- ---- bytes

abbrev AreBytes : List ℕ → Type 0
AreBytes bytes = All (λ b. b < 256) bytes

AreBytes-front : (a b : List ℕ) → AreBytes (a ++ b) → AreBytes a
AreBytes-front a b each = λ i d within. rw (get_or_append_left a b d i within) at (each i d (omega (arith, within, length-append a b)))

AreBytes-back : (a b : List ℕ) → AreBytes (a ++ b) → AreBytes b
AreBytes-back a b each = λ i d within. rw (get_or-append-add a b i d) at (each (length a + i) d (omega (arith, within, length-append a b)))

abbrev AllBytes : List (List ℕ) → Type 0
AllBytes [] = Unit {0}
AllBytes (payload ∷ payloads) = AreBytes payload × AllBytes payloads

AllBytes-frames : (payloads : List (List ℕ)) → AreBytes (frames payloads) → AllBytes payloads
AllBytes-frames [] each = tt
AllBytes-frames (payload ∷ payloads) each =
    let behind = AreBytes-back (1 ∷ size_bytes (length payload)) (payload ++ frames payloads) (subst AreBytes (ap (λ (rest : List ℕ). 1 ∷ rest) (append_assoc (size_bytes (length payload)) payload (frames payloads))) each) in
    (AreBytes-front payload (frames payloads) behind, AllBytes-frames payloads (AreBytes-back payload (frames payloads) behind))

-- ---- lists of spellings

-- a record's spelling is the record's alone
spelled-once : (r other : Decoded) → IsRecord r → IsRecord other → spelled r ≡ spelled other → r ≡ other
spelled-once r other fits fits' same = sym (record_from-spelled r fits) ∙ ap record_from same ∙ record_from-spelled other fits'

records-once : (records others : List Decoded) → AreRecords records → AreRecords others → map spelled records ≡ map spelled others → records ≡ others
records-once [] [] are are' same = refl
records-once [] (other ∷ others) are are' same = cc
records-once (r ∷ records) [] are are' same = cc
records-once (r ∷ records) (other ∷ others) are are' same =
    ap₂ (λ (one : Decoded) (rest : List Decoded). one ∷ rest) (spelled-once r other are.0.spelling are'.0.spelling cc) (records-once records others are.1 are'.1 cc)

-- behind the records before comes the record that the payload spells
record GoesOn (before : List Decoded) (payload : List ℕ) (records : List Decoded) : Type 0 where
  pub r : Decoded
  pub rest : List Decoded
  pub is : records ≡ before ++ r ∷ rest
  pub fits : IsStored r
  pub spelling : payload ≡ spelled r

on : (one other : Decoded) (before : List Decoded) (payload : List ℕ) (records : List Decoded) → other ≡ one → GoesOn before payload records → GoesOn (one ∷ before) payload (other ∷ records)
on one other before payload records same more = record {
  r = more.r;
  rest = more.rest;
  is = ap₂ (λ (r : Decoded) (rest : List Decoded). r ∷ rest) same more.is;
  fits = more.fits;
  spelling = more.spelling;
}

goes_on : (before records : List Decoded) (payload : List ℕ) (after : List (List ℕ)) → AreRecords before → AreRecords records → map spelled records ≡ map spelled before ++ payload ∷ after → GoesOn before payload records
goes_on [] [] payload after are are' same = cc
goes_on [] (r ∷ records) payload after are are' same = record { r = r; rest = records; is = refl; fits = are'.0; spelling = cc }
goes_on (one ∷ before) [] payload after are are' same = cc
goes_on (one ∷ before) (other ∷ records) payload after are are' same =
    on one other before payload records (spelled-once other one are'.0.spelling are.0.spelling cc) (goes_on before records payload after are.1 are'.1 cc)

-- of two lists, both followed by a payload in one list of payloads, either is the other, or goes on with the other's payload
abbrev Compared : List Decoded → List ℕ → List Decoded → List ℕ → Type 0
Compared before payload others other = (before ≡ others) ⊎ (GoesOn before payload others ⊎ GoesOn others other before)

compared : (before others : List Decoded) (payload other : List ℕ) (after rest : List (List ℕ)) → AreRecords before → AreRecords others → map spelled before ++ payload ∷ after ≡ map spelled others ++ other ∷ rest → Compared before payload others other
compared [] [] payload other after rest are are' same = inl refl
compared [] (r ∷ others) payload other after rest are are' same = inr (inl (record { r = r; rest = others; is = refl; fits = are'.0; spelling = cc }))
compared (r ∷ before) [] payload other after rest are are' same = inr (inr (record { r = r; rest = before; is = refl; fits = are.0; spelling = cc }))
compared (r ∷ before) (s ∷ others) payload other after rest are are' same =
    let first : r ≡ s = spelled-once r s are.0.spelling are'.0.spelling cc in
    elim (compared before others payload other after rest are.1 are'.1 cc) [
      | inl equal ↦ inl (ap₂ (λ (one : Decoded) (rest : List Decoded). one ∷ rest) first equal)
      | inr (inl more) ↦ inr (inl (on r s before payload others (sym first) more))
      | inr (inr more) ↦ inr (inr (on s r others other before first more))
    ]

-- the first records of a list that can be replayed can be replayed
commits-front : (definitions : List Def) (history : List (List Change)) (records more : List Decoded) → are_commits_after definitions history (records ++ more) ≡ true → are_commits_after definitions history records ≡ true
commits-front definitions history [] more are = refl
commits-front definitions history (Definitions others ∷ records) more are = are
commits-front definitions history (Commit changes ∷ records) more are =
    let fit = list_all (fits_latest definitions history) changes in
    let parts = and_parts fit (are_commits_after definitions (history ++ changes ∷ []) (records ++ more)) are in
    and_from fit (are_commits_after definitions (history ++ changes ∷ []) records) parts.0 (commits-front definitions (history ++ changes ∷ []) records more parts.1)

can_replay-front : (records more : List Decoded) → can_replay (records ++ more) ≡ true → can_replay records ≡ true
can_replay-front [] more replayable = refl
can_replay-front (Definitions definitions ∷ records) more replayable =
    let kinds = are_replayed definitions in
    let accepted = are_accepted_after [] definitions in
    let parts = and_parts kinds (accepted && are_commits_after definitions [] (records ++ more)) replayable in
    let others = and_parts accepted (are_commits_after definitions [] (records ++ more)) parts.1 in
    and_from kinds (accepted && are_commits_after definitions [] records) parts.0 (and_from accepted (are_commits_after definitions [] records) others.0 (commits-front definitions [] records more others.1))
can_replay-front (Commit changes ∷ records) more replayable = cc

goes_on_bad : (before : List Decoded) (payload : List ℕ) (records : List Decoded) → GoesOn before payload records → can_replay records ≡ true → IsNoNext before payload → ⊥
goes_on_bad before payload records more replayable bad =
    let all = more.is ∙ sym (append_assoc before (more.r ∷ []) more.rest) in
    let can = can_replay-front (before ++ more.r ∷ []) more.rest (sym (ap can_replay all) ∙ replayable) in
    not_both (can_replay (before ++ more.r ∷ [])) can (bad more.r more.fits more.spelling)

-- ---- in one way

module _ (image : List ℕ) where
  way : ReadsOneWay image
  way = reads_one_way image

  not_unformatted : (offset : ℕ) → IsUnformatted image → IsDamaged image offset → ⊥
  not_unformatted offset other (inl cut) = way.unformatted_or_cut offset other cut
  not_unformatted offset other (inr bad) = way.unformatted_or_holds (map spelled bad.before ++ bad.payload ∷ bad.after) other bad.holds

  not_damaged : (records : List Decoded) (offset : ℕ) → HoldsRecords image records → IsDamaged image offset → ⊥
  not_damaged records offset held (inl cut) = way.holds_or_cut (map spelled records) offset held.holds cut
  not_damaged records offset held (inr bad) =
      let same = way.payloads (map spelled records) (map spelled bad.before ++ bad.payload ∷ bad.after) held.holds bad.holds in
      goes_on_bad bad.before bad.payload records (goes_on bad.before records bad.payload bad.after bad.spellings held.spellings same) held.replayable bad.bad

  one_offset : (offset other : ℕ) → IsDamaged image offset → IsDamaged image other → offset ≡ other
  one_offset offset other (inl cut) (inl cut') = way.offset offset other cut cut'
  one_offset offset other (inl cut) (inr bad) = absurd (way.holds_or_cut (map spelled bad.before ++ bad.payload ∷ bad.after) offset bad.holds cut)
  one_offset offset other (inr bad) (inl cut) = absurd (way.holds_or_cut (map spelled bad.before ++ bad.payload ∷ bad.after) other bad.holds cut)
  one_offset offset other (inr bad) (inr bad') =
      let same = way.payloads (map spelled bad.before ++ bad.payload ∷ bad.after) (map spelled bad'.before ++ bad'.payload ∷ bad'.after) bad.holds bad'.holds in
      elim (compared bad.before bad'.before bad.payload bad'.payload bad.after bad'.after bad.spellings bad'.spellings same) [
        | inl equal ↦ bad.place ∙ ap (λ records. 8 + length (frames (map spelled records))) equal ∙ sym bad'.place
        | inr (inl more) ↦ absurd (goes_on_bad bad.before bad.payload bad'.before more bad'.replayable bad.bad)
        | inr (inr more) ↦ absurd (goes_on_bad bad'.before bad'.payload bad.before more bad.replayable bad'.bad)
      ]

  pub reads_records_one_way : ReadsRecordsOneWay image
  reads_records_one_way = record {
    unformatted_or_holds = λ records other held. way.unformatted_or_holds (map spelled records) other held.holds;
    unformatted_or_damaged = not_unformatted;
    holds_or_damaged = not_damaged;
    records = λ records others held held'.
        records-once records others held.spellings held'.spellings (way.payloads (map spelled records) (map spelled others) held.holds held'.holds);
    offset = one_offset;
  }

-- ---- in some way

-- payloads are spellings of records that can be replayed, or one of them is bad
record IsHeld (settled : List (List ℕ)) : Type 0 where
  pub records : List Decoded
  pub same : map spelled records ≡ settled
  pub spellings : AreRecords records
  pub replayable : can_replay records ≡ true

record IsBad (settled : List (List ℕ)) : Type 0 where
  pub before : List Decoded
  pub payload : List ℕ
  pub after : List (List ℕ)
  pub parts : settled ≡ map spelled before ++ payload ∷ after
  pub spellings : AreRecords before
  pub replayable : can_replay before ≡ true
  pub bad : IsNoNext before payload

further : (before : List Decoded) (r : Decoded) (payload : List ℕ) (payloads : List (List ℕ)) → payload ≡ spelled r → map spelled before ++ payload ∷ payloads ≡ map spelled (before ++ r ∷ []) ++ payloads
further before r payload payloads same =
    sym (append_assoc (map spelled before) (payload ∷ []) payloads) ∙ ap (λ one. (map spelled before ++ one ∷ []) ++ payloads) same ∙ ap (λ front. front ++ payloads) (sym (map-append spelled before (r ∷ [])))

-- the next payload is no record of a length that is kept
bad_here : (settled : List (List ℕ)) (before : List Decoded) (payload : List ℕ) (payloads : List (List ℕ)) → settled ≡ map spelled before ++ payload ∷ payloads → AreRecords before → can_replay before ≡ true → IsNoNext before payload → IsBad settled
bad_here settled before payload payloads parts are replayable bad = record {
  before = before;
  payload = payload;
  after = payloads;
  parts = parts;
  spellings = are;
  replayable = replayable;
  bad = bad;
}

held_or_bad : (settled : List (List ℕ)) (before : List Decoded) (payloads : List (List ℕ)) → AllBytes payloads → settled ≡ map spelled before ++ payloads → AreRecords before → can_replay before ≡ true → IsHeld settled ⊎ IsBad settled
held_or_bad settled before [] each parts are replayable = inl (record {
  records = before;
  same = sym (parts ∙ append-nil (map spelled before));
  spellings = are;
  replayable = replayable;
})
held_or_bad settled before (payload ∷ payloads) each parts are replayable =
    elim (cases_lt 67108864 (length payload)) [
      | inl long ↦ inr (bad_here settled before payload payloads parts are replayable (λ other fits same. absurd (omega (arith, long, fits.short, ap length same))))
      | inr short ↦
          elim (spelling_or_fault payload each.0) [
            | inl (r, is) ↦
                elim (cases_Bool (can_replay (before ++ r ∷ []))) [
                  | inl can ↦
                      held_or_bad settled (before ++ r ∷ []) payloads each.1 (parts ∙ further before r payload payloads is.same) (AreRecords-append before r are (record { spelling = is.fits; short = omega (arith, short, ap length is.same) })) can
                  | inr cannot ↦
                      inr (bad_here settled before payload payloads parts are replayable (λ other fits same. ap (λ one. can_replay (before ++ one ∷ [])) (spelled-once other r fits.spelling is.fits (sym same ∙ is.same)) ∙ cannot))
                ]
            | inr (k, faulty) ↦ inr (bad_here settled before payload payloads parts are replayable (λ other fits same. absurd (faulty.none other fits.spelling same)))
          ]
    ]

pub reads_records : (image : List ℕ) → ((i : ℕ) → get_or image i 0 < 256) → ReadsRecords image
reads_records image fits =
    elim (reads_some_way image fits) [
      | inl unformatted ↦ inl unformatted
      | inr (inl (payloads, holds)) ↦
          elim (held_or_bad payloads [] payloads (all_bytes payloads holds) refl tt refl) [
            | inl held ↦
                inr (inl (held.records, record { holds = subst (Holds image) (sym held.same) holds; spellings = held.spellings; replayable = held.replayable }))
            | inr bad ↦
                inr (inr (
                  8 + length (frames (map spelled bad.before)),
                  inr (record {
                    before = bad.before;
                    payload = bad.payload;
                    after = bad.after;
                    holds = subst (Holds image) bad.parts holds;
                    spellings = bad.spellings;
                    replayable = bad.replayable;
                    bad = bad.bad;
                    place = refl;
                  }),
                ))
          ]
      | inr (inr (offset, cut)) ↦ inr (inr (offset, inl cut))
    ]
  where
    all_bytes : (payloads : List (List ℕ)) → Holds image payloads → AllBytes payloads
    all_bytes payloads holds =
        let each : AreBytes image = λ i d within. subst (λ n. n < 256) (get_or_default image i 0 d within) (fits i) in
        AllBytes-frames payloads (AreBytes-back head (frames payloads) (AreBytes-front (head ++ frames payloads) (holds.gate ∷ holds.rest) (subst AreBytes holds.bytes each)))
