-- Reading a format finds its value or its fault, and no other.
use Rattle.std.specs.Prelude.{ℕ, ◌≡◌, ◌+◌, ◌-◌, ◌<◌, ◌≤◌, ◌⊎◌, ◌&&◌, Bool, true, false, List, [], ◌∷◌, ◌++◌, length, take, drop, Result, Ok, Err, nat_le, nat_lt, cond, if◌then◌else◌}
use Rattle.std.specs.List.{concat}
use Rattle.std.proofs.Common.{refl, sym, ap, ◌∙◌, append_assoc, add_assoc, add-zero, zero-add, arith, inl, inr}
use Rattle.std.proofs.lemmas.Bool.{and_parts, and_cases, leb-true, leb-false, le-leb, lt-leb, le-ltb, lt-ltb, cases_lt}
use Rattle.std.proofs.lemmas.List.{take-append-drop, length-take-le, length-drop, length-append, drop-drop, take_at, drop_at}
use Rattle.aw_codec.specs.Formats.{Format, ended, field, After, HasEnded, IsWhole, Refuses, HasFault}
use Rattle.aw_codec.specs.Parsing.{reading, onward, whole}

-- what was found behind so many bytes
abbrev pub shift : {A : Type 0} → ℕ → Result A ℕ → Result A ℕ
shift width (Ok v) = Ok v
shift width (Err k) = Err (width + k)

abbrev pub ended_by : {A : Type 0} → A → List ℕ → Result A ℕ
ended_by v [] = Ok v
ended_by v (b ∷ bytes) = Err 0

-- reading from the first byte to the last one
abbrev pub scan : {A : Type 0} → Format A → List ℕ → Result A ℕ
scan (ended v) bytes = ended_by v bytes
scan (field width test behind) bytes =
    cond (nat_le width (length bytes) && test (take width bytes)) (shift width (scan (behind (take width bytes)) (drop width bytes))) (Err 0)

-- ---- what is found is there

found_behind : {A : Type 0} (b : Bool) (width : ℕ) (r : Result A ℕ) (v : A) → cond b (shift width r) (Err 0) ≡ Ok v → (b ≡ true) × (r ≡ Ok v)
found_behind true width (Ok x) v e = (refl, e)
found_behind true width (Err k) v e = absurd cc
found_behind false width r v e = absurd cc

scan_value : {A : Type 0} (format : Format A) (bytes : List ℕ) (v : A) → scan format bytes ≡ Ok v → IsWhole format bytes v
scan_value (ended w) [] v e = ([], refl, cc)
scan_value (ended w) (b ∷ bytes) v e = absurd cc
scan_value (field width test behind) bytes v e =
    let front = take width bytes in
    let split = found_behind (nat_le width (length bytes) && test front) width (scan (behind front) (drop width bytes)) v e in
    let fits = and_parts (nat_le width (length bytes)) (test front) split.0 in
    let others = scan_value (behind front) (drop width bytes) v split.1 in
    let size : length front ≡ width = length-take-le width bytes (leb-true width (length bytes) fits.0) in
    (front ∷ others.0, ap (λ (rest : List ℕ). front ++ rest) others.1 ∙ take-append-drop width bytes, (size, fits.1, others.2))

-- a fault in a field, or behind it
lost_behind : {A : Type 0} (b : Bool) (width : ℕ) (r : Result A ℕ) (k : ℕ) → cond b (shift width r) (Err 0) ≡ Err k → ((b ≡ false) × (k ≡ 0)) ⊎ ((j : ℕ) × (b ≡ true) × (r ≡ Err j) × (k ≡ width + j))
lost_behind true width (Ok x) k e = absurd cc
lost_behind true width (Err j) k e = inr (j, refl, refl, cc)
lost_behind false width r k e = inl (refl, cc)

refused : (width : ℕ) (test : List ℕ → Bool) (bytes : List ℕ) → (nat_le width (length bytes) && test (take width bytes)) ≡ false → (length bytes < width) ⊎ ((width ≤ length bytes) × (test (take width bytes) ≡ false))
refused width test bytes e =
    elim (cases_lt (length bytes) width) [
      | inl short ↦ inl short
      | inr long ↦ inr (
        long,
        elim (and_cases (nat_le width (length bytes)) (test (take width bytes)) e) [
          | inl over ↦ absurd (omega (arith, leb-false width (length bytes) over))
          | inr fails ↦ fails
        ],
      )
    ]

-- a fault behind fields that may stand there, with what comes there
abbrev pub Splits : {A : Type 0} → Format A → List ℕ → ℕ → Type 0
Splits format bytes k =
    (fields : List (List ℕ)) × (rest : List ℕ) × (bytes ≡ concat fields ++ rest) × (k ≡ length (concat fields)) × After format fields (Refuses rest)

splits_behind : {A : Type 0} (width : ℕ) (test : List ℕ → Bool) (behind : List ℕ → Format A) (bytes : List ℕ) (j k : ℕ) → (nat_le width (length bytes) && test (take width bytes)) ≡ true → k ≡ width + j
    → Splits (behind (take width bytes)) (drop width bytes) j → Splits (field width test behind) bytes k
splits_behind width test behind bytes j k passes at (fields, rest, same, size, after) =
    let front = take width bytes in
    let fits = and_parts (nat_le width (length bytes)) (test front) passes in
    let wide : length front ≡ width = length-take-le width bytes (leb-true width (length bytes) fits.0) in
    let whole_is : bytes ≡ (front ++ concat fields) ++ rest =
    sym (take-append-drop width bytes) ∙ ap (λ (others : List ℕ). front ++ others) same ∙ sym (append_assoc front (concat fields) rest) in
    let here : k ≡ length (front ++ concat fields) = omega (arith, length-append front (concat fields)) in
    (front ∷ fields, rest, whole_is, here, (wide, fits.1, after))

scan_splits : {A : Type 0} (format : Format A) (bytes : List ℕ) (k : ℕ) → scan format bytes ≡ Err k → Splits format bytes k
scan_splits (ended w) [] k e = absurd cc
scan_splits (ended w) (b ∷ bytes) k e = ([], b ∷ bytes, refl, cc, λ none. cc)
scan_splits (field width test behind) bytes k e =
    elim (lost_behind (nat_le width (length bytes) && test (take width bytes)) width (scan (behind (take width bytes)) (drop width bytes)) k e) [
      | inl (fails, here) ↦ ([], bytes, refl, here, refused width test bytes fails)
      | inr (j, passes, found, at) ↦ splits_behind width test behind bytes j k passes at (scan_splits (behind (take width bytes)) (drop width bytes) j found)
    ]

fault_from_split : {A : Type 0} (format : Format A) (bytes : List ℕ) (k : ℕ) → Splits format bytes k → HasFault format bytes k
fault_from_split format bytes k (fields, rest, same, size, after) =
    let within : k ≤ length bytes = omega (arith, ap length same, length-append (concat fields) rest) in
    let front : concat fields ≡ take k bytes = sym (ap (λ (b : List ℕ). take k b) same ∙ take_at (concat fields) rest k (sym size)) in
    let end : drop k bytes ≡ rest = ap (λ (b : List ℕ). drop k b) same ∙ drop_at (concat fields) rest k (sym size) in
    (within, fields, front, rw end after)

-- ---- what is there is found

pub scan_whole : {A : Type 0} (format : Format A) (fields : List (List ℕ)) (v : A) → After format fields (HasEnded v) → scan format (concat fields) ≡ Ok v
scan_whole (ended w) [] v after = ap Ok (sym after)
scan_whole (ended w) (front ∷ fields) v after = absurd after
scan_whole (field width test behind) [] v after = absurd after
scan_whole (field width test behind) (front ∷ fields) v (size, passes, after) =
    let fits : nat_le width (length (front ++ concat fields)) ≡ true = le-leb width (length (front ++ concat fields)) (omega (arith, length-append front (concat fields))) in
    rw (fits, take_at front (concat fields) width size, passes, drop_at front (concat fields) width size, scan_whole (behind front) fields v after) refl

pub scan_refused : {A : Type 0} (format : Format A) (fields : List (List ℕ)) (rest : List ℕ) → After format fields (Refuses rest) → scan format (concat fields ++ rest) ≡ Err (length (concat fields))
scan_refused (ended w) [] [] after = absurd (after refl)
scan_refused (ended w) [] (b ∷ rest) after = refl
scan_refused (ended w) (front ∷ fields) rest after = absurd after
scan_refused (field width test behind) [] rest after =
    elim after [
      | inl short ↦ rw (lt-leb width (length rest) short) refl
      | inr (long, fails) ↦ rw (le-leb width (length rest) long, fails) refl
    ]
scan_refused (field width test behind) (front ∷ fields) rest (size, passes, after) =
    let others = concat fields ++ rest in
    let fits : nat_le width (length (front ++ others)) ≡ true = le-leb width (length (front ++ others)) (omega (arith, length-append front others)) in
    let total : width + length (concat fields) ≡ length (front ++ concat fields) = omega (arith, length-append front (concat fields)) in
    rw (append_assoc front (concat fields) rest, fits, take_at front others width size, passes, drop_at front others width size, scan_refused (behind front) fields rest after, total) refl

-- ---- reading at an offset is reading what stands there

shift-shift : {A : Type 0} (m n : ℕ) (r : Result A ℕ) → shift m (shift n r) ≡ shift (m + n) r
shift-shift m n (Ok v) = refl
shift-shift m n (Err k) = ap Err (sym (add_assoc m n k))

shift-zero : {A : Type 0} (r : Result A ℕ) → shift 0 r ≡ r
shift-zero (Ok v) = refl
shift-zero (Err k) = ap Err (zero-add k)

-- what is answered where the value ends
abbrev pub at_end : {A : Type 0} → List ℕ → A → ℕ → Result A ℕ
at_end bytes v end = if nat_lt end (length bytes) then Err end else Ok v

end_is : {A : Type 0} (v : A) (bytes rest : List ℕ) (at : ℕ) → at + length rest ≡ length bytes → at_end bytes v at ≡ shift at (ended_by v rest)
end_is v bytes [] at size = rw (le-ltb at (length bytes) (omega arith)) refl
end_is v bytes (b ∷ rest) at size = rw (lt-ltb at (length bytes) (omega arith)) (ap Err (sym (add-zero at)))

choice : {A : Type 0} (b c : Bool) (r : Result (A × ℕ) ℕ) (next : A → ℕ → Result A ℕ) (s : Result A ℕ) (at : ℕ) → b ≡ c → (c ≡ true → onward r next ≡ shift at s)
    → onward (if b then r else Err at) next ≡ shift at (cond c s (Err 0))
choice b true r next s at same found = rw same (found refl)
choice b false r next s at same found = rw same (ap Err (sym (add-zero at)))

same_test : (bytes : List ℕ) (at width : ℕ) (passes : Bool) → at ≤ length bytes → (nat_le (at + width) (length bytes) && passes) ≡ (nat_le width (length (drop at bytes)) && passes)
same_test bytes at width passes within =
    let size : length (drop at bytes) ≡ length bytes - at = length-drop at bytes in
    elim (cases_lt (length bytes) (at + width)) [
      | inl short ↦ rw (lt-leb (at + width) (length bytes) short, lt-leb width (length (drop at bytes)) (omega arith)) refl
      | inr long ↦ rw (le-leb (at + width) (length bytes) long, le-leb width (length (drop at bytes)) (omega arith)) refl
    ]

reading_scan : {A : Type 0} (format : Format A) (bytes : List ℕ) (at : ℕ) → at ≤ length bytes → onward (reading format bytes at) (at_end bytes) ≡ shift at (scan format (drop at bytes))
reading_scan (ended v) bytes at within = end_is v bytes (drop at bytes) at (omega (arith, length-drop at bytes))
reading_scan (field width test behind) bytes at within =
    let rest = drop at bytes in
    let front = take width rest in
    choice (nat_le (at + width) (length bytes) && test front) (nat_le width (length rest) && test front) (reading (behind front) bytes (at + width)) (at_end bytes) (shift width (scan (behind front) (drop width rest))) at
    (same_test bytes at width (test front) within)
    (λ passes.
    let fits = leb-true width (length rest) (and_parts (nat_le width (length rest)) (test front) passes).0 in
    let within-2 : at + width ≤ length bytes = omega (arith, length-drop at bytes) in
    reading_scan (behind front) bytes (at + width) within-2
    ∙ ap (λ (others : List ℕ). shift (at + width) (scan (behind front) others)) (sym (drop-drop width at bytes))
    ∙ sym (shift-shift at width (scan (behind front) (drop width rest))))

whole_scan : {A : Type 0} (format : Format A) (bytes : List ℕ) → whole format bytes ≡ scan format bytes
whole_scan format bytes = reading_scan format bytes 0 (omega arith) ∙ shift-zero (scan format bytes)

-- ---- what is read of all bytes

pub value_of_whole : {A : Type 0} (format : Format A) (bytes : List ℕ) (v : A) → whole format bytes ≡ Ok v → IsWhole format bytes v
value_of_whole format bytes v e = scan_value format bytes v (sym (whole_scan format bytes) ∙ e)

pub fault_of_whole : {A : Type 0} (format : Format A) (bytes : List ℕ) (k : ℕ) → whole format bytes ≡ Err k → HasFault format bytes k
fault_of_whole format bytes k e = fault_from_split format bytes k (scan_splits format bytes k (sym (whole_scan format bytes) ∙ e))

pub whole_of_value : {A : Type 0} (format : Format A) (bytes : List ℕ) (v : A) → IsWhole format bytes v → whole format bytes ≡ Ok v
whole_of_value format bytes v (fields, same, after) =
    whole_scan format bytes ∙ ap (λ (b : List ℕ). scan format b) (sym same) ∙ scan_whole format fields v after

pub whole_of_fault : {A : Type 0} (format : Format A) (bytes : List ℕ) (k : ℕ) → HasFault format bytes k → whole format bytes ≡ Err k
whole_of_fault format bytes k (within, fields, front, after) =
    let parts : concat fields ++ drop k bytes ≡ bytes = ap (λ (b : List ℕ). b ++ drop k bytes) front ∙ take-append-drop k bytes in
    let size : length (concat fields) ≡ k = ap length front ∙ length-take-le k bytes within in
    whole_scan format bytes ∙ ap (λ (b : List ℕ). scan format b) (sym parts) ∙ scan_refused format fields (drop k bytes) after ∙ ap Err size
