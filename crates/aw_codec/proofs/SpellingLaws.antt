-- The laws of spellings and of faults.
use Rattle.std.specs.Prelude.{ℕ, ◌≡◌, ◌≢◌, ◌⊎◌, List, [], ◌∷◌, ◌++◌, length, take, Result, Ok, Err}
use Rattle.std.proofs.Common.{refl, sym, ap, subst, ◌∙◌, inl, inr}
use Rattle.std.proofs.lemmas.List.{append-nil, append_cancel_left, take_at}
use Rattle.aw_codec.specs.declared.record.Decoded.{Decoded}
use Rattle.aw_codec.specs.Formats.{Format, ended, field, After, HasEnded, Refuses, IsWhole, HasFault}
use Rattle.aw_codec.specs.Parsing.{whole}
use Rattle.aw_codec.specs.RecordFormat.{record_format}
use Rattle.aw_codec.specs.Records.{IsRecord, spelled}
use Rattle.aw_codec.specs.Laws.{SpellingsDiffer, SpellingOrFault, WholesAreRecords, IsSpelling, IsFaulty}
use Rattle.aw_codec.proofs.FormatLaws.{whole_of_value, fault_of_whole, whole_of_fault, scan, scan_whole, scan_refused}
use Rattle.aw_codec.proofs.Parts.{AreBytes}
use Rattle.aw_codec.proofs.RecordLaws.{record_is, record_whole}
use Rattle.aw_codec.proofs.DecodeLaws.{bytes_are_below, record_of_whole, whole_of_record}

-- ---- what may stand next is more than nothing

still_refused : {A : Type 0} (v : A) (rest : List ℕ) → rest ≢ [] → (format : Format A) → HasEnded v format → Refuses rest format
still_refused v rest some (ended w) is = some
still_refused v rest some (field width test behind) is = absurd is

after_weaker : {A : Type 0} (P Q : Format A → Type 0) → ((format : Format A) → P format → Q format) → (format : Format A) (fields : List (List ℕ)) → After format fields P → After format fields Q
after_weaker P Q weaker format [] after = weaker format after
after_weaker P Q weaker (ended v) (x ∷ fields) after = absurd after
after_weaker P Q weaker (field width test behind) (x ∷ fields) (size, passes, after) = (size, passes, after_weaker P Q weaker (behind x) fields after)

-- with more bytes behind it, what was whole has its fault at its end
scan_more : {A : Type 0} (format : Format A) (bytes rest : List ℕ) (v : A) → rest ≢ [] → IsWhole format bytes v → scan format (bytes ++ rest) ≡ Err (length bytes)
scan_more format bytes rest v some (fields, same, after) =
    subst (λ (b : List ℕ). scan format (b ++ rest) ≡ Err (length b)) same
    (scan_refused format fields rest (after_weaker (HasEnded v) (Refuses rest) (still_refused v rest some) format fields after))

scan_all : {A : Type 0} (format : Format A) (bytes : List ℕ) (v : A) → IsWhole format bytes v → scan format (bytes ++ []) ≡ Ok v
scan_all format bytes v (fields, same, after) =
    subst (λ (b : List ℕ). scan format b ≡ Ok v) (same ∙ sym (append-nil bytes)) (scan_whole format fields v after)

-- two whole values at the front of the same bytes are one
one_front : {A : Type 0} (format : Format A) (p q x y : List ℕ) (v w : A) → IsWhole format p v → IsWhole format q w → p ++ x ≡ q ++ y → (v ≡ w) × (x ≡ y)
one_front format p q [] [] v w first second same =
    let a = scan_all format p v first in
    let b = scan_all format q w second in
    let e : scan format (p ++ []) ≡ scan format (q ++ []) = ap (scan format) same in
    (cc, refl)
one_front format p q [] (c ∷ y) v w first second same =
    let a = scan_all format p v first in
    let b = scan_more format q (c ∷ y) w (λ none. cc) second in
    let e : scan format (p ++ []) ≡ scan format (q ++ c ∷ y) = ap (scan format) same in
    absurd cc
one_front format p q (c ∷ x) [] v w first second same =
    let a = scan_more format p (c ∷ x) v (λ none. cc) first in
    let b = scan_all format q w second in
    let e : scan format (p ++ c ∷ x) ≡ scan format (q ++ []) = ap (scan format) same in
    absurd cc
one_front format p q (c ∷ x) (d ∷ y) v w first second same =
    let a = scan_more format p (c ∷ x) v (λ none. cc) first in
    let b = scan_more format q (d ∷ y) w (λ none. cc) second in
    let e : scan format (p ++ c ∷ x) ≡ scan format (q ++ d ∷ y) = ap (scan format) same in
    let size : length p ≡ length q = cc in
    let front : p ≡ q = sym (take_at p (c ∷ x) (length p) refl) ∙ ap (take (length p)) same ∙ take_at q (d ∷ y) (length p) (sym size) in
    let rest : c ∷ x ≡ d ∷ y = append_cancel_left q (c ∷ x) (d ∷ y) (ap (λ (b : List ℕ). b ++ c ∷ x) (sym front) ∙ same) in
    let first-q = subst (λ (b : List ℕ). IsWhole format b v) front first in
    let v-is = whole_of_value format q v first-q in
    let w-is = whole_of_value format q w second in
    (cc, rest)

pub spellings_differ : SpellingsDiffer
spellings_differ a b x y fits-a fits-b same = one_front record_format (spelled a) (spelled b) x y a b (record_whole a fits-a) (record_whole b fits-b) same

sound_record : (bytes : List ℕ) (r : Decoded) → whole record_format bytes ≡ Ok r → (k : ℕ) → HasFault record_format bytes k → ⊥
sound_record bytes r is k fault = let other = whole_of_fault record_format bytes k fault in cc

one_fault : (bytes : List ℕ) (k : ℕ) → whole record_format bytes ≡ Err k → (j : ℕ) → HasFault record_format bytes j → j ≡ k
one_fault bytes k is j fault = let other = whole_of_fault record_format bytes j fault in cc

no_record : (bytes : List ℕ) (k : ℕ) → whole record_format bytes ≡ Err k → (r : Decoded) → IsRecord r → bytes ≡ spelled r → ⊥
no_record bytes k is r fits same = let other = whole_of_record bytes r fits same in cc

by_reading : (bytes : List ℕ) (read : Result Decoded ℕ) → AreBytes bytes → whole record_format bytes ≡ read → ((r : Decoded) × IsSpelling bytes r) ⊎ ((k : ℕ) × IsFaulty bytes k)
by_reading bytes (Ok r) each is = let (fits, same) = record_of_whole bytes r each is in inl (r, record { fits = fits; same = same; sound = sound_record bytes r is })
by_reading bytes (Err k) each is = inr (k, record { here = fault_of_whole record_format bytes k is; alone = one_fault bytes k is; none = no_record bytes k is })

pub spelling_or_fault : SpellingOrFault
spelling_or_fault bytes each = by_reading bytes (whole record_format bytes) (bytes_are_below bytes each) refl

pub wholes_are_records : WholesAreRecords
wholes_are_records bytes r each = (
  λ is. record_is bytes r (record { each = bytes_are_below bytes each; whole = is }),
  λ (fits, same). subst (λ (b : List ℕ). IsWhole record_format b r) (sym same) (record_whole r fits),
)
