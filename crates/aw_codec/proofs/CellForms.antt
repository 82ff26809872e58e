-- The bytes of a cell are its spelling.
use Rattle.std.specs.Prelude.{ℕ, ℤ, zero, suc, ◌≡◌, ◌^◌, ◌<◌, ◌≤◌, ◌≢◌, ◌==◌, ◌&&◌, Bool as Truth, true, false, not, List, [], ◌∷◌, ◌++◌, length, IsTrue, nat_le, pos, negsuc, int_le, FitsSigned}
use Rattle.std.specs.List.{list_all}
use Rattle.std.specs.Int.{w8, w32, w64, is_in_range, to_be_bytes, cast_signed, cast_unsigned}
use Rattle.std.proofs.Common.{refl, sym, ap, ◌∙◌, arith, inl, inr}
use Rattle.std.proofs.lemmas.Bool.{and_parts, and_from, cases_Bool, eqb-true, eqb-false, ne_eqb, not-true, not_from_false, leb-true, le-leb}
use Rattle.std.proofs.lemmas.Int.{of_z-to_z, to_z-of_z, ints}
use Rattle.std.proofs.Math.Facts.{sfits_to_z, Fits-of_z}
use Rattle.std.proofs.lemmas.List.{append-nil}
use Rattle.aw_cell.specs.declared.cell.Cell.{Cell}
use Rattle.aw_cell.specs.declared.cell.Cell.TheVariants.{Na, Num, Int, Text, Bool, Slot}
use Rattle.aw_cell.specs.Number.{IsInRange}
use Rattle.aw_cell.specs.Text.{is_text, is_text_byte}
use Rattle.aw_codec.specs.Formats.{Format, ended, ◌>>=◌, number, bytes_of, IsWhole}
use Rattle.aw_codec.specs.RecordFormat.{units, integer, text, truth, slot, behind_cell_kind, cell}
use Rattle.aw_codec.specs.RecordFormat as format
use Rattle.aw_codec.specs.Spellings as spelling
use Rattle.aw_codec.specs.Spellings.{short, truth_byte}
use Rattle.aw_codec.specs.Records.{IsSpelled}
use Rattle.aw_codec.proofs.Parts.{Reads, parts, joined, ended_is, ended_whole, long_is, long_whole, wide_is, wide_whole, bytes_are, bytes_whole, range_is, range_whole, least_is, least_whole}
use Rattle.aw_codec.proofs.Many.{together}

-- ---- numbers with a sign

fits_32 : (n : ℕ) → n < 2 ^ 32 → FitsSigned w32 (cast_signed w32 n)
fits_32 n small = sfits_to_z {w = w32} (record { fits = small })

unsigned_32 : (z : ℤ) → FitsSigned w32 z → cast_unsigned w32 z < 2 ^ 32
unsigned_32 z fits = (Fits-of_z {w = w32} {z = z} fits).fits

unsigned_64 : (z : ℤ) → FitsSigned w64 z → cast_unsigned w64 z < 2 ^ 64
unsigned_64 z fits = (Fits-of_z {w = w64} {z = z} fits).fits

least_bits : (n : ℕ) → n < 2 ^ 32 → cast_signed w32 n ≡ negsuc 2147483647 → n ≡ 2147483648
least_bits n small is = sym (of_z-to_z w32 n small) ∙ ap (cast_unsigned w32) is

least_value : (z : ℤ) → FitsSigned w32 z → cast_unsigned w32 z ≡ 2147483648 → z ≡ negsuc 2147483647
least_value z fits is = sym (to_z-of_z w32 z fits) ∙ ap (cast_signed w32) is

-- ---- INTEGER

integer_is : (bytes : List ℕ) (v : Cell) → Reads integer bytes v → (2 ∷ bytes ≡ spelling.cell v) × IsSpelled v
unfolding integer
integer_is bytes v reads =
    let p = parts (number w32 (λ n. not (n == 2147483648))) (λ n. ended (Int (cast_signed w32 n))) bytes v reads in
    let (same, other, small) = long_is (λ n. not (n == 2147483648)) p.front p.v p.first in
    let (is, none) = ended_is (Int (cast_signed w32 p.v)) v p.back p.second.whole in
    let here : bytes ≡ to_be_bytes w32 p.v = together p.same same none ∙ append-nil (to_be_bytes w32 p.v) in
    let bits : cast_unsigned w32 (cast_signed w32 p.v) ≡ p.v = of_z-to_z w32 p.v small in
    let spelled : 2 ∷ bytes ≡ 2 ∷ to_be_bytes w32 (cast_unsigned w32 (cast_signed w32 p.v)) = ap (λ (b : List ℕ). 2 ∷ b) (here ∙ ap (to_be_bytes w32) (sym bits)) in
    let apart : cast_signed w32 p.v ≢ negsuc 2147483647 = λ e. eqb-false p.v 2147483648 (not-true (p.v == 2147483648) other) (least_bits p.v small e) in
    rw is (spelled, (fits_32 p.v small, apart))

integer_whole : (z : ℤ) → IsSpelled (Int z) → IsWhole integer (to_be_bytes w32 (cast_unsigned w32 z)) (Int z)
unfolding integer
integer_whole z (fits, apart) =
    let n = cast_unsigned w32 z in
    let small : n < 2 ^ 32 = unsigned_32 z fits in
    let other : not (n == 2147483648) ≡ true = not_from_false (n == 2147483648) (ne_eqb n 2147483648 (λ e. apart (least_value z fits e))) in
    let back : cast_signed w32 n ≡ z = to_z-of_z w32 z fits in
    rw append-nil at (joined (number w32 (λ m. not (m == 2147483648))) (λ m. ended (Int (cast_signed w32 m))) (to_be_bytes w32 n) [] n (Int z) (long_whole (λ m. not (m == 2147483648)) n small other) (rw back (ended_whole (Int z))))

-- ---- NUMBER

abbrev in_units : ℤ → Truth
in_units z = int_le (negsuc 999999999999999998) z && int_le z (pos 999999999999999999)

range_of : (z : ℤ) → IsTrue (in_units z) → IsInRange z
range_of z within =
    let (low, high) = and_parts (int_le (negsuc 999999999999999998) z) (int_le z (pos 999999999999999999)) within in
    (omega (arith, ints, low), omega (arith, ints, high))

of_range : (z : ℤ) → IsInRange z → IsTrue (in_units z)
of_range (pos n) (low, high) = and_from (int_le (negsuc 999999999999999998) (pos n)) (int_le (pos n) (pos 999999999999999999)) refl (le-leb n 999999999999999999 (omega (arith, ints, high)))
of_range (negsuc n) (low, high) = and_from (int_le (negsuc 999999999999999998) (negsuc n)) (int_le (negsuc n) (pos 999999999999999999)) (le-leb n 999999999999999998 (omega (arith, ints, low))) refl

fits_64 : (z : ℤ) → IsInRange z → FitsSigned w64 z
fits_64 (pos n) (low, high) = record { sfits = omega (arith, ints, high) }
fits_64 (negsuc n) (low, high) = record { sfits = omega (arith, ints, low) }

units_is : (bytes : List ℕ) (v : Cell) → Reads units bytes v → (1 ∷ bytes ≡ spelling.cell v) × IsSpelled v
unfolding units
units_is bytes v reads =
    let p = parts (number w64 (λ n. in_units (cast_signed w64 n))) (λ n. ended (Num (cast_signed w64 n))) bytes v reads in
    let (same, within, small) = wide_is (λ n. in_units (cast_signed w64 n)) p.front p.v p.first in
    let (is, none) = ended_is (Num (cast_signed w64 p.v)) v p.back p.second.whole in
    let here : bytes ≡ to_be_bytes w64 p.v = together p.same same none ∙ append-nil (to_be_bytes w64 p.v) in
    let bits : cast_unsigned w64 (cast_signed w64 p.v) ≡ p.v = of_z-to_z w64 p.v small in
    let spelled : 1 ∷ bytes ≡ 1 ∷ to_be_bytes w64 (cast_unsigned w64 (cast_signed w64 p.v)) = ap (λ (b : List ℕ). 1 ∷ b) (here ∙ ap (to_be_bytes w64) (sym bits)) in
    rw is (spelled, range_of (cast_signed w64 p.v) within)

units_whole : (z : ℤ) → IsInRange z → IsWhole units (to_be_bytes w64 (cast_unsigned w64 z)) (Num z)
unfolding units
units_whole z range =
    let fits = fits_64 z range in
    let n = cast_unsigned w64 z in
    let back : cast_signed w64 n ≡ z = to_z-of_z w64 z fits in
    let passes : IsTrue (in_units (cast_signed w64 n)) = rw back (of_range z range) in
    rw append-nil at (joined (number w64 (λ m. in_units (cast_signed w64 m))) (λ m. ended (Num (cast_signed w64 m))) (to_be_bytes w64 n) [] n (Num z) (wide_whole (λ m. in_units (cast_signed w64 m)) n (unsigned_64 z fits) passes) (rw back (ended_whole (Num z))))

-- ---- TEXT, BOOLEAN and slots

abbrev text_behind : ℕ → Format Cell
text_behind size = bytes_of size is_text >>= λ bytes. ended (Text bytes)

text_is : (bytes : List ℕ) (v : Cell) → Reads text bytes v → (3 ∷ bytes ≡ spelling.cell v) × IsSpelled v
unfolding text
text_is bytes v reads =
    let a = parts (number w8 (is_in_range 0 64)) text_behind bytes v reads in
    let (size, low, high) = range_is 0 64 a.front a.v a.first in
    let b = parts (bytes_of a.v is_text) (λ found. ended (Text found)) a.back v a.second in
    let (same, many, passes) = bytes_are a.v is_text b.front b.v b.first in
    let (is, none) = ended_is (Text b.v) v b.back b.second.whole in
    let rest : a.back ≡ b.v = together b.same same none ∙ append-nil b.v in
    let here : bytes ≡ length b.v ∷ b.v = together a.same (size ∙ ap (λ (n : ℕ). n ∷ []) (sym many)) rest in
    rw is (ap (λ (b : List ℕ). 3 ∷ b) here, passes)

text_size : (found : List ℕ) → IsTrue (is_text found) → length found ≤ 64
text_size found passes = leb-true (length found) 64 (and_parts (nat_le (length found) 64) (list_all is_text_byte found) passes).0

text_whole : (found : List ℕ) → IsTrue (is_text found) → IsWhole text (length found ∷ found) (Text found)
unfolding text
text_whole found passes =
    let from_bytes = joined (bytes_of (length found) is_text) (λ bytes. ended (Text bytes)) found [] found (Text found) (bytes_whole is_text found passes) (ended_whole (Text found)) in
    rw append-nil at (joined (number w8 (is_in_range 0 64)) text_behind (length found ∷ []) (found ++ []) (length found) (Text found) (range_whole 0 64 (length found) (omega arith) (text_size found passes)) from_bytes)

truth_of : (n : ℕ) → n ≤ 1 → n ≡ truth_byte (n == 1)
truth_of n most =
    elim (cases_Bool (n == 1)) [
      | inl one ↦ rw one (eqb-true n 1 one)
      | inr other ↦ let apart = eqb-false n 1 other in rw other (none n most apart)
    ]
  where
    none : (n : ℕ) → n ≤ 1 → n ≢ 1 → n ≡ 0
    none zero most apart = refl
    none (suc zero) most apart = absurd (apart refl)
    none (suc (suc n)) most apart = absurd (omega arith)

truth_is : (bytes : List ℕ) (v : Cell) → Reads truth bytes v → (4 ∷ bytes ≡ spelling.cell v) × IsSpelled v
unfolding truth
truth_is bytes v reads =
    let p = parts (number w8 (is_in_range 0 1)) (λ byte. ended (Bool (byte == 1))) bytes v reads in
    let (same, low, high) = range_is 0 1 p.front p.v p.first in
    let (is, none) = ended_is (Bool (p.v == 1)) v p.back p.second.whole in
    let here : bytes ≡ truth_byte (p.v == 1) ∷ [] = together p.same (same ∙ ap (λ (n : ℕ). n ∷ []) (truth_of p.v high)) none in
    rw is (ap (λ (b : List ℕ). 4 ∷ b) here, tt)

truth_whole : (b : Truth) → IsWhole truth (truth_byte b ∷ []) (Bool b)
unfolding truth
truth_whole false = joined (number w8 (is_in_range 0 1)) (λ byte. ended (Bool (byte == 1))) (0 ∷ []) [] 0 (Bool false) (range_whole 0 1 0 (omega arith) (omega arith)) (ended_whole (Bool false))
truth_whole true = joined (number w8 (is_in_range 0 1)) (λ byte. ended (Bool (byte == 1))) (1 ∷ []) [] 1 (Bool true) (range_whole 0 1 1 (omega arith) (omega arith)) (ended_whole (Bool true))

slot_is : (bytes : List ℕ) (v : Cell) → Reads slot bytes v → (5 ∷ bytes ≡ spelling.cell v) × IsSpelled v
unfolding slot
slot_is bytes v reads =
    let p = parts format.short (λ n. ended (Slot n)) bytes v reads in
    let (same, least, small) = least_is 0 p.front p.v p.first in
    let (is, none) = ended_is (Slot p.v) v p.back p.second.whole in
    let here : bytes ≡ short p.v = together p.same same none ∙ append-nil (short p.v) in
    rw is (ap (λ (b : List ℕ). 5 ∷ b) here, small)

slot_whole : (n : ℕ) → n < 2 ^ 16 → IsWhole slot (short n) (Slot n)
unfolding slot
slot_whole n small = rw append-nil at (joined format.short (λ m. ended (Slot m)) (short n) [] n (Slot n) (least_whole 0 n (omega arith) small) (ended_whole (Slot n)))

-- ---- cells

-- what is read behind the byte of a kind, by the byte
by_kind : (P : ℕ → Format Cell → Type 0) → P 0 (ended Na) → P 1 units → P 2 integer → P 3 text → P 4 truth → P 5 slot → (kind : ℕ) → kind ≤ 5 → P kind (behind_cell_kind kind)
by_kind P a b c d e f zero most = a
by_kind P a b c d e f (suc zero) most = b
by_kind P a b c d e f (suc (suc zero)) most = c
by_kind P a b c d e f (suc (suc (suc zero))) most = d
by_kind P a b c d e f (suc (suc (suc (suc zero)))) most = e
by_kind P a b c d e f (suc (suc (suc (suc (suc zero))))) most = f
by_kind P a b c d e f (suc (suc (suc (suc (suc (suc n)))))) most = absurd (omega arith)

value_is : (bytes : List ℕ) (v : Cell) (kind : ℕ) → kind ≤ 5 → Reads (behind_cell_kind kind) bytes v → (kind ∷ bytes ≡ spelling.cell v) × IsSpelled v
value_is bytes v =
    by_kind (λ kind behind. Reads behind bytes v → (kind ∷ bytes ≡ spelling.cell v) × IsSpelled v)
    (λ reads. let (is, nothing) = ended_is Na v bytes reads.whole in rw is (ap (λ (b : List ℕ). 0 ∷ b) nothing, tt))
    (units_is bytes v) (integer_is bytes v) (text_is bytes v) (truth_is bytes v) (slot_is bytes v)

abbrev behind : ℕ → Format Cell
behind kind = behind_cell_kind kind >>= λ value. ended value

pub cell_is : (bytes : List ℕ) (v : Cell) → Reads cell bytes v → (bytes ≡ spelling.cell v) × IsSpelled v
unfolding cell
cell_is bytes v reads =
    let a = parts (number w8 (is_in_range 0 5)) behind bytes v reads in
    let (kind, low, high) = range_is 0 5 a.front a.v a.first in
    let b = parts (behind_cell_kind a.v) (λ value. ended value) a.back v a.second in
    let (is, none) = ended_is b.v v b.back b.second.whole in
    let (same, spelled) = value_is b.front b.v a.v high b.first in
    let rest : a.back ≡ b.front = together b.same refl none ∙ append-nil b.front in
    rw is (together a.same kind rest ∙ same, spelled)

with_kind : (kind : ℕ) (bytes : List ℕ) (v : Cell) → kind ≤ 5 → IsWhole (behind_cell_kind kind) bytes v → IsWhole cell (kind ∷ bytes) v
unfolding cell
with_kind kind bytes v most whole =
    rw append-nil at (joined (number w8 (is_in_range 0 5)) behind (kind ∷ []) (bytes ++ []) kind v (range_whole 0 5 kind (omega arith) most) (joined (behind_cell_kind kind) (λ value. ended value) bytes [] v v whole (ended_whole v)))

pub cell_whole : (v : Cell) → IsSpelled v → IsWhole cell (spelling.cell v) v
cell_whole Na spelled = with_kind 0 [] Na (omega arith) (ended_whole Na)
cell_whole (Num z) spelled = with_kind 1 (to_be_bytes w64 (cast_unsigned w64 z)) (Num z) (omega arith) (units_whole z spelled)
cell_whole (Int z) spelled = with_kind 2 (to_be_bytes w32 (cast_unsigned w32 z)) (Int z) (omega arith) (integer_whole z spelled)
cell_whole (Text found) spelled = with_kind 3 (length found ∷ found) (Text found) (omega arith) (text_whole found spelled)
cell_whole (Bool b) spelled = with_kind 4 (truth_byte b ∷ []) (Bool b) (omega arith) (truth_whole b)
cell_whole (Slot n) spelled = with_kind 5 (short n) (Slot n) (omega arith) (slot_whole n spelled)
