-- The values that were read are those of a dimension.
use Rattle.std.specs.Prelude.{ℕ, ◌≡◌, ◌+◌, ◌-◌, ◌<◌, ◌≤◌, ◌&&◌, Bool, true, false, List, [], ◌∷◌, ◌++◌, length, take, drop, Result, Ok, Err, nat_le, if◌then◌else◌}
use Rattle.std.specs.List.{concat}
use Rattle.std.proofs.Common.{refl, sym, ap, subst, arith, inl, inr}
use Rattle.std.proofs.lemmas.Bool.{cases_lt, cases_Bool, and_parts, leb-true}
use Rattle.std.proofs.lemmas.List.{take-append-drop, length-take-le, length-drop, get_or_append_left, get_or-append_right}
use Rattle.aw_dim.specs.DimensionState.{Entry, IsDimension}
use Rattle.aw_codec.specs.Formats.{Format, ended, field, many, After, HasEnded}
use Rattle.aw_codec.specs.Parsing.{reading}
use Rattle.aw_codec.specs.RecordFormat.{value}
use Rattle.aw_codec.specs.Spellings as spelling
use Rattle.aw_codec.proofs.Parts.{AreBytes, AreBytes-front, AreBytes-back, Reads}
use Rattle.aw_codec.proofs.Many.{many_are}
use Rattle.aw_codec.proofs.PatchForms.{IsValue, value_is, dimension_of}

AreBytes-take : (n : ℕ) (xs : List ℕ) → AreBytes xs → AreBytes (take n xs)
AreBytes-take n xs each = AreBytes-front (take n xs) (drop n xs) (subst AreBytes (sym (take-append-drop n xs)) each)

AreBytes-drop : (n : ℕ) (xs : List ℕ) → AreBytes xs → AreBytes (drop n xs)
AreBytes-drop n xs each = AreBytes-back (take n xs) (drop n xs) (subst AreBytes (sym (take-append-drop n xs)) each)

AreBytes-append : (a b : List ℕ) → AreBytes a → AreBytes b → AreBytes (a ++ b)
AreBytes-append a b one other i =
    elim (cases_lt i (length a)) [
      | inl within ↦ subst (λ (n : ℕ). n < 256) (sym (get_or_append_left a b 0 i within)) (one i)
      | inr past ↦ subst (λ (n : ℕ). n < 256) (sym (get_or-append_right a b (length a) i 0 refl past)) (other (i - length a))
    ]

chosen : {A : Type 0} (b : Bool) (r s : Result A ℕ) (v : A) → b ≡ true → (if b then r else s) ≡ Ok v → r ≡ Ok v
chosen true r s v is e = e
chosen false r s v is e = absurd cc

refused : {A : Type 0} (b : Bool) (r : Result A ℕ) (k : ℕ) (v : A) → b ≡ false → (if b then r else Err k) ≡ Ok v → ⊥
refused true r k v is e = cc
refused false r k v is e = cc

answers_are : {X : Type 0} (r : Result X ℕ) (x y : X) → r ≡ Ok x → r ≡ Ok y → x ≡ y
answers_are r x y one other = cc

module _ {A : Type 0} where
  value_is_read : (r : Result (A × ℕ) ℕ) (w v : A) (at end : ℕ) → r ≡ Ok (w, at) → r ≡ Ok (v, end) → v ≡ w
  value_is_read r w v at end one other = ap (λ (x : A × ℕ). x.0) (answers_are r (v, end) (w, at) other one)

-- the fields that were read
fields_of : {A : Type 0} (format : Format A) (bytes : List ℕ) (at : ℕ) (v : A) (end : ℕ) → AreBytes bytes → reading format bytes at ≡ Ok (v, end)
    → (fields : List (List ℕ)) × AreBytes (concat fields) × After format fields (HasEnded v)
fields_of (ended w) bytes at v end each e = ([], (λ i. omega arith), value_is_read (Ok (w, at)) w v at end refl e)
fields_of (field width test behind) bytes at v end each e =
    let front = take width (drop at bytes) in
    let fits = nat_le (at + width) (length bytes) && test front in
    elim (cases_Bool fits) [
      | inl passes ↦
          let parts = and_parts (nat_le (at + width) (length bytes)) (test front) passes in
          let within = leb-true (at + width) (length bytes) parts.0 in
          let size : length front ≡ width = length-take-le width (drop at bytes) (omega (arith, length-drop at bytes)) in
          let more = fields_of (behind front) bytes (at + width) v end each (chosen fits (reading (behind front) bytes (at + width)) (Err at) (v, end) passes e) in
          (front ∷ more.0, AreBytes-append front (concat more.0) (AreBytes-take width (drop at bytes) (AreBytes-drop at bytes each)) more.1, (size, parts.1, more.2))
      | inr fails ↦ absurd (refused fits (reading (behind front) bytes (at + width)) at (v, end) fails e)
    ]

reads_of : {A : Type 0} (format : Format A) (bytes : List ℕ) (at : ℕ) (v : A) (end : ℕ) → AreBytes bytes → reading format bytes at ≡ Ok (v, end) → (front : List ℕ) × Reads format front v
reads_of format bytes at v end each e =
    let (fields, small, after) = fields_of format bytes at v end each e in
    (concat fields, record { each = small; whole = (fields, refl, after) })

pub dimension_read : (next count : ℕ) (bytes : List ℕ) (at : ℕ) (entries : List Entry) (end : ℕ) → AreBytes bytes → next ≤ 65536 → reading (many (value next) count []) bytes at ≡ Ok (entries, end)
    → IsDimension (record { entries = entries; next = next })
dimension_read next count bytes at entries end each most e =
    let (front, reads) = reads_of (many (value next) count []) bytes at entries end each e in
    let found = many_are (value next) spelling.value (IsValue next) (value_is next) count [] front entries reads in
    subst (λ (all : List Entry). IsDimension (record { entries = all; next = next })) (sym found.is) (dimension_of next found.xs most found.fit)
