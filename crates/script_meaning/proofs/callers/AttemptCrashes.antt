-- One attempt more, and what a crash may leave of its disk at any moment.
use Rattle.std.specs.Prelude.{◌≡◌, ◌<◌, ◌≤◌, ◌+◌, ◌⊎◌, ◌++◌, ℕ, Bool, true, false, cond, List, [], ◌∷◌, length, take, nat_le, Option, None, Some, slice_get, refl}
use Rattle.std.specs.Option.{ForSome, option_to_list}
use Rattle.std.proofs.Common.{◌∙◌, ap, sym, subst, inl, inr, ⊎_elim, arith, append-nil, length-append, take_all}
use Rattle.std.proofs.lemmas.Bool.{cases_lt, le-leb, lt-leb}
use Rattle.std.proofs.lemmas.List.{take-append-le}
use Rattle.std.proofs.lemmas.List.Sums.{sum_by-append, count_by-le-length}
use Rattle.std.proofs.lemmas.Option.{none-some, same_Some}
use Rattle.aw_codec.specs.declared.record.Decoded.{Decoded}
use Rattle.aw_journal.specs.Passed.{Passed}
use Rattle.aw_store.specs.StoredRecords.{HoldsRecords, LeftRecords}
use Rattle.script_world.specs.Outcomes.{Attempt, settled_records, IsInDoubt, IsBegun}
use Rattle.script_meaning.specs.Transcript.{SameRecords, HoldsLeft, Rise, ended_by}
use Rattle.script_meaning.specs.StoreAttempts.{HasAttempted}
use Rattle.script_world.proofs.callers.Elements.{slice_get-append}

-- ---- moments

Rise-le : (least : ℕ) (ends : List ℕ) (last : ℕ) → Rise least ends last → least ≤ last
Rise-le least [] last rise = rise
Rise-le least (end ∷ ends) last rise = omega (arith, rise.0, Rise-le end ends last rise.1)

Rise-push : (least : ℕ) (ends : List ℕ) (last now : ℕ) → Rise least ends last → last ≤ now → Rise least (ends ++ now ∷ []) now
Rise-push least [] last now rise later = (omega arith, omega arith)
Rise-push least (end ∷ ends) last now rise later = (rise.0, Rise-push end ends last now rise.1 later)

-- one more, whether it is there by a moment or not
ended_by-push : (moment : ℕ) (ends : List ℕ) (now : ℕ) (there : Bool) → nat_le now moment ≡ there → ended_by moment (ends ++ now ∷ []) ≡ ended_by moment ends + cond there 1 0
ended_by-push moment ends now there is =
    let one : Bool → ℕ = λ it. cond it 1 0 in
    let last : one (nat_le now moment) ≡ one there = ap one is in
    omega (arith, last, sum_by-append (λ (end : ℕ). one (nat_le end moment)) ends (now ∷ []))

all_ended : (moment least : ℕ) (ends : List ℕ) (last : ℕ) → Rise least ends last → last ≤ moment → ended_by moment ends ≡ length ends
all_ended moment least [] last rise later = refl
all_ended moment least (end ∷ ends) last rise later =
    let one : Bool → ℕ = λ it. cond it 1 0 in
    let first : one (nat_le end moment) ≡ 1 = ap one (le-leb end moment (omega (arith, Rise-le end ends last rise.1, later))) in
    omega (arith, first, sum_by-append (λ (end : ℕ). one (nat_le end moment)) (end ∷ []) ends, all_ended moment end ends last rise.1 later)

-- ---- lists of attempts

slice_get-last : {A : Type 0} (xs : List A) (last : A) → slice_get (xs ++ last ∷ []) (length xs) ≡ Some last
slice_get-last [] last = refl
slice_get-last (x ∷ xs) last = slice_get-last xs last

-- ---- what may be left

-- what a store holds where these attempts were made: the settled_records records, and perhaps the one in doubt
module _ (opened : List Decoded) (made more : List (Attempt Decoded)) (ended : ℕ) (front : take ended more ≡ made) (image : List ℕ) where
  settled_left : (records : List Decoded) → records ≡ settled_records opened made → HoldsRecords image records → HoldsLeft SameRecords opened more ended image
  settled_left records are holds = record {
    records = records;
    holds = holds;
    may_leave = record {
      more = None;
      are = are ∙ ap (settled_records opened) (sym front) ∙ sym (append-nil (settled_records opened (take ended more)));
      one = λ r is. absurd (none-some r is);
    };
  }

  one_left : (records : List Decoded) (last : Decoded) → records ≡ settled_records opened made → HoldsRecords image (records ++ last ∷ []) → IsBegun (slice_get more ended) last ⊎ IsInDoubt (take ended more) last → HoldsLeft SameRecords opened more ended image
  one_left records last are holds why = record {
    records = records ++ last ∷ [];
    holds = holds;
    may_leave = record {
      more = Some last;
      are = ap (λ those. those ++ last ∷ []) (are ∙ ap (settled_records opened) (sym front));
      one = λ r is. subst (λ it. IsBegun (slice_get more ended) it ⊎ IsInDoubt (take ended more) it) (same_Some last r is) why;
    };
  }

  store_left : (records : List Decoded) (doubt : Option Decoded) → records ≡ settled_records opened made → ForSome doubt (IsInDoubt made) → LeftRecords records doubt image → HoldsLeft SameRecords opened more ended image
  store_left records None are in_doubt holds = settled_left records are holds
  store_left records (Some r) are in_doubt holds =
      ⊎_elim (settled_left records are) (λ longer. one_left records r are longer (inr (subst (λ those. IsInDoubt those r) (sym front) (in_doubt r refl)))) holds

-- attempts to come change nothing of what may be left now
later_left : (opened : List Decoded) (made more : List (Attempt Decoded)) (ended : ℕ) (image : List ℕ) → ended ≤ length made → HoldsLeft SameRecords opened made ended image → HoldsLeft SameRecords opened (made ++ more) ended image
later_left opened made more ended image within it =
    let front : take ended (made ++ more) ≡ take ended made = take-append-le ended made more within in
    let may = it.may_leave in
    record {
      records = it.records;
      holds = it.holds;
      may_leave = record {
        more = may.more;
        are = may.are ∙ ap (λ those. settled_records opened those ++ option_to_list may.more) (sym front);
        one = λ r is. ⊎_elim (λ begun. inl (record { attempt = begun.attempt; comes = slice_get-append made more ended begun.attempt begun.comes; is = begun.is })) (λ doubt. inr (subst (λ those. IsInDoubt those r) (sym front) doubt)) (may.one r is);
      };
    }

-- ---- one attempt more

-- what a call made of a store that made this attempt
pub record AttemptEnds (opened : List Decoded) (made : List (Attempt Decoded)) (now : ℕ) (crash : ℕ → List ℕ → Type 0) (records : List Decoded) (doubt : Option Decoded) : Type 0 where
  pub are_settled : records ≡ settled_records opened made
  pub in_doubt : ForSome doubt (IsInDoubt made)
  pub images : (image : List ℕ) → crash now image → LeftRecords records doubt image

module _ (opened : List Decoded) (made : List (Attempt Decoded)) (ends : List ℕ) (start before now : ℕ) (past since : ℕ → List ℕ → Type 0) (records new_records : List Decoded) (doubt new_doubt : Option Decoded) (attempt : Attempt Decoded)
    (fares : HasAttempted SameRecords opened made ends start before past records doubt)
    (passed : Passed before now past since (λ image. LeftRecords records doubt image ⊎ HoldsRecords image (records ++ attempt.attempted ∷ [])))
    (ended : AttemptEnds opened (made ++ attempt ∷ []) now since new_records new_doubt) where
  abbrev more : List (Attempt Decoded)
  more = made ++ attempt ∷ []

  abbrev those_ends : List ℕ
  those_ends = ends ++ now ∷ []

  -- before the call
  earlier : (moment : ℕ) (image : List ℕ) → start ≤ moment → moment < before → since moment image → HoldsLeft SameRecords opened more (ended_by moment those_ends) image
  earlier moment image from below left =
      let left_then = (passed.kept moment image below).0 left in
      let it = fares.each moment image from (omega (arith, below)) left_then in
      let counts : ended_by moment those_ends ≡ ended_by moment ends = omega (arith, ended_by-push moment ends now false (lt-leb now moment (omega (arith, below, passed.later)))) in
      let few : ended_by moment ends ≤ length made = omega (arith, count_by-le-length (λ (end : ℕ). nat_le end moment) ends, fares.as_many) in
      subst (λ count. HoldsLeft SameRecords opened more count image) (sym counts) (later_left opened made (attempt ∷ []) (ended_by moment ends) image few it)

  -- within it
  meanwhile : (moment : ℕ) (image : List ℕ) → before ≤ moment → moment < now → since moment image → HoldsLeft SameRecords opened more (ended_by moment those_ends) image
  meanwhile moment image from below left =
      let counts : ended_by moment those_ends ≡ length made = omega (arith, ended_by-push moment ends now false (lt-leb now moment below), all_ended moment start ends before fares.rise from, fares.as_many) in
      let front : take (length made) more ≡ made = take-append-le (length made) made (attempt ∷ []) (omega arith) ∙ take_all (length made) made (omega arith) in
      subst (λ count. HoldsLeft SameRecords opened more count image) (sym counts)
      (⊎_elim (store_left opened made more (length made) front image records doubt fares.are_settled fares.in_doubt) (λ longer. one_left opened made more (length made) front image records attempt.attempted fares.are_settled longer (inl (record { attempt = attempt; comes = slice_get-last made attempt; is = refl }))) (passed.only moment image from (omega (arith, below)) left))

  -- at its end
  afterwards : (image : List ℕ) → since now image → HoldsLeft SameRecords opened more (ended_by now those_ends) image
  afterwards image left =
      let counts : ended_by now those_ends ≡ length more = omega (arith, ended_by-push now ends now true (le-leb now now (omega arith)), all_ended now start ends before fares.rise passed.later, fares.as_many, length-append made (attempt ∷ [])) in
      subst (λ count. HoldsLeft SameRecords opened more count image) (sym counts) (store_left opened more more (length more) (take_all (length more) more (omega arith)) image new_records new_doubt ended.are_settled ended.in_doubt (ended.images image left))

  pub fares_attempt : HasAttempted SameRecords opened (made ++ attempt ∷ []) (ends ++ now ∷ []) start now since new_records new_doubt
  fares_attempt = record {
    are_settled = ended.are_settled;
    in_doubt = ended.in_doubt;
    as_many = omega (arith, length-append ends (now ∷ []), length-append made (attempt ∷ []), fares.as_many);
    rise = Rise-push start ends before now fares.rise passed.later;
    each = λ moment image from to left.
        ⊎_elim (λ below. earlier moment image from below left) (λ above. ⊎_elim (λ below. meanwhile moment image above below left) (λ at. subst (λ moment. since moment image → HoldsLeft SameRecords opened more (ended_by moment those_ends) image) (omega (arith, at, to)) (afterwards image) left) (cases_lt moment now)) (cases_lt moment before);
  }

-- ---- the beginning and the end

-- a disk that was just opened
pub fares_opened : {now : ℕ} {crash : ℕ → List ℕ → Type 0} (records : List Decoded) → ((image : List ℕ) → crash now image → LeftRecords records None image) → HasAttempted SameRecords records [] [] now now crash records None
fares_opened {now} {crash} records images = record {
  are_settled = sym (append-nil records);
  in_doubt = λ r is. absurd (none-some r is);
  as_many = refl;
  rise = omega arith;
  each = λ moment image from to left.
      settled_left records [] [] 0 refl image records (sym (append-nil records)) (images image (subst (λ at. crash at image) (omega (arith, from, to)) left));
}

-- at the end each attempt has ended
pub fares_final : (opened : List Decoded) (made : List (Attempt Decoded)) (ends : List ℕ) (start now : ℕ) (crash : ℕ → List ℕ → Type 0) (records : List Decoded) (doubt : Option Decoded) → HasAttempted SameRecords opened made ends start now crash records doubt → (image : List ℕ) → crash now image → HoldsLeft SameRecords opened made (length made) image
fares_final opened made ends start now crash records doubt fares image left =
    let counts : ended_by now ends ≡ length made = omega (arith, all_ended now start ends now fares.rise (omega arith), fares.as_many) in
    subst (λ count. HoldsLeft SameRecords opened made count image) counts (fares.each now image (Rise-le start ends now fares.rise) (omega arith) left)
