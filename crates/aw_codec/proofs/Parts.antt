-- What stands in a format that goes on with another, and in a single field.
use Rattle.std.specs.Prelude.{ℕ, ◌≡◌, ◌+◌, ◌^◌, ◌<◌, ◌≤◌, Bool, List, [], ◌∷◌, ◌++◌, length, nat_le, IsTrue}
use Rattle.std.specs.List.{concat}
use Rattle.std.specs.Int.{w8, w16, w32, w64, from_be_bytes, to_be_bytes, is_in_range}
use Rattle.std.proofs.Common.{refl, sym, ap, ◌∙◌, append_assoc, arith, inl, inr, get_or}
use Rattle.std.proofs.lemmas.Bool.{cases_lt, and_parts, and_from, leb-true, le-leb}
use Rattle.std.proofs.lemmas.List.{append-nil, get_or_past, get_or_append_left, get_or-append-add}
use Rattle.std.proofs.lemmas.Nat.{be_bytes_2, be_bytes_4, be_bytes_8, from_be_bytes-to_be_bytes_2, from_be_bytes-to_be_bytes_4, from_be_bytes-to_be_bytes_8}
use Rattle.aw_codec.specs.Formats.{Format, ended, field, ◌>>=◌, number, bytes_of, After, HasEnded, IsWhole}

-- ---- bytes

abbrev pub AreBytes : List ℕ → Type 0
AreBytes bytes = (i : ℕ) → get_or bytes i 0 < 256

pub AreBytes-front : (a b : List ℕ) → AreBytes (a ++ b) → AreBytes a
AreBytes-front a b each i =
    elim (cases_lt i (length a)) [
      | inl within ↦ rw (get_or_append_left a b 0 i within) at (each i)
      | inr past ↦ rw (get_or_past a i 0 past) (omega arith)
    ]

pub AreBytes-back : (a b : List ℕ) → AreBytes (a ++ b) → AreBytes b
AreBytes-back a b each i = rw (get_or-append-add a b i 0) at (each (length a + i))

-- ---- one format behind another

concat-append : (xs ys : List (List ℕ)) → concat (xs ++ ys) ≡ concat xs ++ concat ys
concat-append [] ys = refl
concat-append (x ∷ xs) ys = ap (λ (rest : List ℕ). x ++ rest) (concat-append xs ys) ∙ sym (append_assoc x (concat xs) (concat ys))

module _ {A B : Type 0} (next : A → Format B) where
  after_bind : (format : Format A) (front back : List (List ℕ)) (v : A) (r : B) → After format front (HasEnded v) → After (next v) back (HasEnded r) → After (format >>= next) (front ++ back) (HasEnded r)
  after_bind (ended w) [] back v r first second = rw first at second
  after_bind (ended w) (x ∷ front) back v r first second = absurd first
  after_bind (field width test behind) [] back v r first second = absurd first
  after_bind (field width test behind) (x ∷ front) back v r (size, passes, first) second = (size, passes, after_bind (behind x) front back v r first second)

  bind_after : (format : Format A) (fields : List (List ℕ)) (r : B) → After (format >>= next) fields (HasEnded r)
      → (v : A) × (front : List (List ℕ)) × (back : List (List ℕ)) × (fields ≡ front ++ back) × After format front (HasEnded v) × After (next v) back (HasEnded r)
  bind_after (ended w) fields r after = (w, [], fields, refl, refl, after)
  bind_after (field width test behind) [] r after = absurd after
  bind_after (field width test behind) (x ∷ fields) r (size, passes, after) =
      let (v, front, back, same, first, second) = bind_after (behind x) fields r after in
      (v, x ∷ front, back, ap (λ (xs : List (List ℕ)). x ∷ xs) same, (size, passes, first), second)

-- the bytes are those of the format, with this value
pub record Reads {A : Type 0} (format : Format A) (bytes : List ℕ) (v : A) : Type 0 where
  pub each : AreBytes bytes
  pub whole : IsWhole format bytes v

-- the bytes of the one, and those of the other
pub record Parts {A B : Type 0} (format : Format A) (next : A → Format B) (bytes : List ℕ) (r : B) : Type 0 where
  pub v : A
  pub front : List ℕ
  pub back : List ℕ
  pub same : bytes ≡ front ++ back
  pub first : Reads format front v
  pub second : Reads (next v) back r

pub parts : {A B : Type 0} (format : Format A) (next : A → Format B) (bytes : List ℕ) (r : B) → Reads (format >>= next) bytes r → Parts format next bytes r
parts format next bytes r reads =
    let (fields, joined, after) = reads.whole in
    let (v, front, back, split, first, second) = bind_after next format fields r after in
    let same : bytes ≡ concat front ++ concat back = sym joined ∙ ap concat split ∙ concat-append front back in
    let each : AreBytes (concat front ++ concat back) = rw same at reads.each in
    record {
      v = v;
      front = concat front;
      back = concat back;
      same = same;
      first = record { each = AreBytes-front (concat front) (concat back) each; whole = (front, refl, first) };
      second = record { each = AreBytes-back (concat front) (concat back) each; whole = (back, refl, second) };
    }

pub joined : {A B : Type 0} (format : Format A) (next : A → Format B) (a b : List ℕ) (v : A) (r : B) → IsWhole format a v → IsWhole (next v) b r → IsWhole (format >>= next) (a ++ b) r
joined format next a b v r (front, same-a, first) (back, same-b, second) =
    (front ++ back, concat-append front back ∙ rw (same-a, same-b) refl, after_bind next format front back v r first second)

pub ended_is : {A : Type 0} (v w : A) (bytes : List ℕ) → IsWhole (ended v) bytes w → (w ≡ v) × (bytes ≡ [])
ended_is v w bytes ([], same, after) = (after, sym same)
ended_is v w bytes (x ∷ fields, same, after) = absurd after

pub ended_whole : {A : Type 0} (v : A) → IsWhole (ended v) [] v
ended_whole v = ([], refl, refl)

-- ---- a single field

one_field : {A : Type 0} (width : ℕ) (test : List ℕ → Bool) (value : List ℕ → A) (bytes : List ℕ) (v : A) → IsWhole (field width test (λ b. ended (value b))) bytes v → (length bytes ≡ width) × IsTrue (test bytes) × (v ≡ value bytes)
one_field width test value bytes v ([], same, after) = absurd after
one_field width test value bytes v (x ∷ [], same, (size, passes, is)) =
    let here : bytes ≡ x = sym same ∙ append-nil x in
    rw here (size, passes, is)
one_field width test value bytes v (x ∷ y ∷ fields, same, (size, passes, is)) = absurd is

field_whole : {A : Type 0} (width : ℕ) (test : List ℕ → Bool) (value : List ℕ → A) (bytes : List ℕ) → length bytes ≡ width → IsTrue (test bytes) → IsWhole (field width test (λ b. ended (value b))) bytes (value bytes)
field_whole width test value bytes size passes = (bytes ∷ [], append-nil bytes, (size, passes, refl))

single : (bytes : List ℕ) → length bytes ≡ 1 → bytes ≡ from_be_bytes w8 bytes ∷ []
single [] size = absurd (omega arith)
single (b ∷ []) size = refl
single (b ∷ c ∷ bytes) size = absurd (omega arith)

pub byte_is : (test : ℕ → Bool) (bytes : List ℕ) (n : ℕ) → Reads (number w8 test) bytes n → (bytes ≡ n ∷ []) × IsTrue (test n)
unfolding number
byte_is test bytes n reads =
    let is = one_field 1 (λ b. test (from_be_bytes w8 b)) (from_be_bytes w8) bytes n reads.whole in
    (single bytes is.0 ∙ ap (λ (m : ℕ). m ∷ []) (sym is.2), rw is.2 is.1)

pub byte_whole : (test : ℕ → Bool) (n : ℕ) → IsTrue (test n) → IsWhole (number w8 test) (n ∷ []) n
unfolding number
byte_whole test n passes = field_whole 1 (λ b. test (from_be_bytes w8 b)) (from_be_bytes w8) (n ∷ []) refl passes

pub short_is : (test : ℕ → Bool) (bytes : List ℕ) (n : ℕ) → Reads (number w16 test) bytes n → (bytes ≡ to_be_bytes w16 n) × IsTrue (test n) × (n < 2 ^ 16)
unfolding number
short_is test bytes n reads =
    let is = one_field 2 (λ b. test (from_be_bytes w16 b)) (from_be_bytes w16) bytes n reads.whole in
    (sym (be_bytes_2 bytes n is.0 reads.each is.2), rw is.2 is.1, rw is.2 (omega (arith, reads.each 0, reads.each 1)))

pub short_whole : (test : ℕ → Bool) (n : ℕ) → n < 2 ^ 16 → IsTrue (test n) → IsWhole (number w16 test) (to_be_bytes w16 n) n
unfolding number
short_whole test n small passes =
    let again = from_be_bytes-to_be_bytes_2 n small in
    rw again at (field_whole {A = ℕ} 2 (λ b. test (from_be_bytes w16 b)) (from_be_bytes w16) (to_be_bytes w16 n) refl (rw again passes))

pub long_is : (test : ℕ → Bool) (bytes : List ℕ) (n : ℕ) → Reads (number w32 test) bytes n → (bytes ≡ to_be_bytes w32 n) × IsTrue (test n) × (n < 2 ^ 32)
unfolding number
long_is test bytes n reads =
    let is = one_field 4 (λ b. test (from_be_bytes w32 b)) (from_be_bytes w32) bytes n reads.whole in
    (sym (be_bytes_4 bytes n is.0 reads.each is.2), rw is.2 is.1, rw is.2 (omega (arith, reads.each 0, reads.each 1, reads.each 2, reads.each 3)))

pub long_whole : (test : ℕ → Bool) (n : ℕ) → n < 2 ^ 32 → IsTrue (test n) → IsWhole (number w32 test) (to_be_bytes w32 n) n
unfolding number
long_whole test n small passes =
    let again = from_be_bytes-to_be_bytes_4 n small in
    rw again at (field_whole {A = ℕ} 4 (λ b. test (from_be_bytes w32 b)) (from_be_bytes w32) (to_be_bytes w32 n) refl (rw again passes))

pub wide_is : (test : ℕ → Bool) (bytes : List ℕ) (n : ℕ) → Reads (number w64 test) bytes n → (bytes ≡ to_be_bytes w64 n) × IsTrue (test n) × (n < 2 ^ 64)
unfolding number
wide_is test bytes n reads =
    let is = one_field 8 (λ b. test (from_be_bytes w64 b)) (from_be_bytes w64) bytes n reads.whole in
    (sym (be_bytes_8 bytes n is.0 reads.each is.2), rw is.2 is.1, rw is.2 (omega (arith, reads.each 0, reads.each 1, reads.each 2, reads.each 3, reads.each 4, reads.each 5, reads.each 6, reads.each 7)))

pub wide_whole : (test : ℕ → Bool) (n : ℕ) → n < 2 ^ 64 → IsTrue (test n) → IsWhole (number w64 test) (to_be_bytes w64 n) n
unfolding number
wide_whole test n small passes =
    let again = from_be_bytes-to_be_bytes_8 n small in
    rw again at (field_whole {A = ℕ} 8 (λ b. test (from_be_bytes w64 b)) (from_be_bytes w64) (to_be_bytes w64 n) refl (rw again passes))

pub bytes_are : (size : ℕ) (test : List ℕ → Bool) (bytes v : List ℕ) → Reads (bytes_of size test) bytes v → (bytes ≡ v) × (length v ≡ size) × IsTrue (test v)
unfolding bytes_of
bytes_are size test bytes v reads =
    let is = one_field size test (λ b. b) bytes v reads.whole in
    (sym is.2, rw is.2 is.0, rw is.2 is.1)

pub bytes_whole : (test : List ℕ → Bool) (v : List ℕ) → IsTrue (test v) → IsWhole (bytes_of (length v) test) v v
unfolding bytes_of
bytes_whole test v passes = field_whole (length v) test (λ b. b) v refl passes

-- ---- single fields in a range

pub range_is : (low high : ℕ) (bytes : List ℕ) (n : ℕ) → Reads (number w8 (is_in_range low high)) bytes n → (bytes ≡ n ∷ []) × (low ≤ n) × (n ≤ high)
range_is low high bytes n reads =
    let is = byte_is (is_in_range low high) bytes n reads in
    let within = and_parts (nat_le low n) (nat_le n high) is.1 in
    (is.0, leb-true low n within.0, leb-true n high within.1)

pub range_whole : (low high n : ℕ) → low ≤ n → n ≤ high → IsWhole (number w8 (is_in_range low high)) (n ∷ []) n
range_whole low high n least most = byte_whole (is_in_range low high) n (and_from (nat_le low n) (nat_le n high) (le-leb low n least) (le-leb n high most))

pub least_is : (least : ℕ) (bytes : List ℕ) (n : ℕ) → Reads (number w16 (nat_le least)) bytes n → (bytes ≡ to_be_bytes w16 n) × (least ≤ n) × (n < 2 ^ 16)
least_is least bytes n reads = let is = short_is (nat_le least) bytes n reads in (is.0, leb-true least n is.1, is.2)

pub least_whole : (least n : ℕ) → least ≤ n → n < 2 ^ 16 → IsWhole (number w16 (nat_le least)) (to_be_bytes w16 n) n
least_whole least n more small = short_whole (nat_le least) n small (le-leb least n more)

pub count_is : (least : ℕ) (bytes : List ℕ) (n : ℕ) → Reads (number w32 (nat_le least)) bytes n → (bytes ≡ to_be_bytes w32 n) × (least ≤ n) × (n < 2 ^ 32)
count_is least bytes n reads = let is = long_is (nat_le least) bytes n reads in (is.0, leb-true least n is.1, is.2)

pub count_whole : (least n : ℕ) → least ≤ n → n < 2 ^ 32 → IsWhole (number w32 (nat_le least)) (to_be_bytes w32 n) n
count_whole least n more small = long_whole (nat_le least) n small (le-leb least n more)
