-- What is dumped tells each object's number and body.
use Rattle.std.specs.Prelude.{◌≡◌, ◌≢◌, ◌<◌, ◌≤◌, ◌&&◌, ◌/◌, ◌%◌, ◌+◌, ◌==◌, ◌++◌, ℕ, zero, suc, ℤ, pos, negsuc, Bool as Truth, true, false, not, nat_le, nat_lt, List, [], ◌∷◌, length, codes, drop, Option, Some, None, IsTrue, All, unsigned_abs, if◌then◌else◌, refl}
use Rattle.std.specs.Fmt.{digits, digits_onto, digit_glyph, decimal, signed_decimal}
use Rattle.std.specs.List.{flat_map, list_all, list_any}
use Rattle.std.proofs.Common.{◌∙◌, ap, ap₂, sym, subst, arith, append_assoc, leb-true, true≢false}
use Rattle.std.proofs.lemmas.Bool.{and_parts, eqb-true, ltb-true}
use Rattle.std.proofs.lemmas.Fmt.{decimal_injective, signed_decimal_injective}
use Rattle.std.proofs.lemmas.List.{append_cancel_left}
use Rattle.std.proofs.lemmas.List.Elements.{All-nil, All-cons, All-head, All-tail}
use Rattle.aw_cell.specs.declared.cell.Cell.{Cell}
use Rattle.aw_cell.specs.declared.cell.Cell.TheVariants.{Na, Num, Int, Text, Bool, Slot}
use Rattle.aw_cell.specs.declared.cell.Kind.{Kind}
use Rattle.aw_cell.specs.declared.cell.Kind.TheVariants.{Num as NumberKind, Int as IntegerKind, Text as TextKind, Bool as BooleanKind, Slot as SlotKind}
use Rattle.aw_cell.specs.CellText.{cell_text, number_text, four_digits, sign, size_text}
use Rattle.aw_cell.specs.Laws.{TextsTellApart}
use Rattle.aw_cell.specs.Names.{is_name, has_name_form, is_letter, is_name_byte, same_word, reserved_words}
use Rattle.aw_cell.specs.Text.{is_text_byte}
use Rattle.aw_lists.specs.Coord.{AreSlots}
use Rattle.aw_dim.specs.DimensionState.{Entry, DimensionState, IsValueName, IsDimension}
use Rattle.aw_page.specs.Fitting.{is_na, is_of_kind}
use Rattle.aw_var.specs.CellMap.{KeyedCell, Cells}
use Rattle.aw_var.specs.Variable.{Contents, is_pair_of}
use Rattle.aw_schema.specs.declared.definition.Def.{Def}
use Rattle.aw_schema.specs.declared.definition.DefKind.{DefKind}
use Rattle.aw_schema.specs.declared.definition.DefKind.TheVariants.{Dimension, Relation, Valueset, Variable, Formula, Program, Aggmap}
use Rattle.aw_schema.specs.Definitions.{is_kept}
use Rattle.aw_body.specs.declared.body.Body.{Body}
use Rattle.aw_body.specs.declared.body.Body.TheVariants.{Dim, Rel, Set, Var}
use Rattle.aw_body.specs.Bodies.{IsBodyOf}
use Rattle.mv_core.specs.declared.object.Object.{Object}
use Rattle.script_meaning.specs.Dump.{line_of, value_line, slot_line, key_text, cell_line, body_lines, counted, heading, dumped_object, dumped_kept, dumped, IsSmall, IsCellTold, AreCellsTold, IsBodyTold, IsDumpable, AreDumpable, seen_of, DumpTells}
use Rattle.aw_body.proofs.CallerLemmas.{kept-kind}

-- ---- texts without a byte

abbrev first : List ℕ → ℕ
first [] = 0
first (b ∷ bytes) = b

-- none of the bytes is this one
abbrev Free : ℕ → List ℕ → Type 0
Free stop [] = Unit {0}
Free stop (b ∷ bytes) = (b ≢ stop) × Free stop bytes

until : (stop : ℕ) (one other x y : List ℕ) → Free stop one → Free stop other → one ++ stop ∷ x ≡ other ++ stop ∷ y → (one ≡ other) × (x ≡ y)
until stop [] [] x y free more same = (refl, ap (drop 1) same)
until stop [] (b ∷ other) x y free more same = absurd (more.0 (sym (ap first same)))
until stop (a ∷ one) [] x y free more same = absurd (free.0 (ap first same))
until stop (a ∷ one) (b ∷ other) x y free more same =
    let rest = until stop one other x y free.1 more.1 (ap (drop 1) same) in
    (ap₂ (λ (byte : ℕ) (bytes : List ℕ). byte ∷ bytes) (ap first same) rest.0, rest.1)

free-append : (stop : ℕ) (one other : List ℕ) → Free stop one → Free stop other → Free stop (one ++ other)
free-append stop [] other free more = more
free-append stop (b ∷ one) other free more = (free.0, free-append stop one other free.1 more)

glyph-free : (stop d : ℕ) → stop < 45 → digit_glyph false d ≢ stop
glyph-free stop d small = step (nat_lt d 10)
  where
    step : (low : Truth) → (if low then 48 + d else 87 + d) ≢ stop
    step true = λ is. omega (arith, small, is)
    step false = λ is. omega (arith, small, is)

digits_onto-free : (stop k n : ℕ) (behind : List ℕ) → stop < 45 → Free stop behind → Free stop (digits_onto k 10 false n behind)
digits_onto-free stop zero n behind small free = free
digits_onto-free stop (suc k) n behind small free =
    let digit = digit_glyph false (n % 10) in
    let more : Free stop (digit ∷ behind) = (glyph-free stop (n % 10) small, free) in
    step (n / 10 == 0) (digit ∷ behind) (digits_onto k 10 false (n / 10) (digit ∷ behind)) more (digits_onto-free stop k (n / 10) (digit ∷ behind) small more)
  where
    step : (last : Truth) (one other : List ℕ) → Free stop one → Free stop other → Free stop (if last then one else other)
    step true one other free more = free
    step false one other free more = more

decimal-free : (stop n : ℕ) → stop < 45 → Free stop (decimal n)
unfolding digits
decimal-free stop n small = digits_onto-free stop 64 n [] small tt

decimal-same : (n m : ℕ) → n < 65537 → m < 65537 → decimal n ≡ decimal m → n ≡ m
decimal-same n m few less same = decimal_injective n m (omega (arith, few)) (omega (arith, less)) same

-- ---- cells

signed-free : (z : ℤ) → Free 10 (signed_decimal z)
signed-free (pos n) = decimal-free 10 n (omega arith)
signed-free (negsuc n) = (λ is. omega (arith, is), decimal-free 10 (suc n) (omega arith))

signed-same : (z w : ℤ) → IsSmall z → IsSmall w → signed_decimal z ≡ signed_decimal w → z ≡ w
signed-same (pos n) (pos k) small less same = signed_decimal_injective (pos n) (pos k) small less same
signed-same (pos n) (negsuc k) small less same = signed_decimal_injective (pos n) (negsuc k) small (omega (arith, less)) same
signed-same (negsuc n) (pos k) small less same = signed_decimal_injective (negsuc n) (pos k) (omega (arith, small)) less same
signed-same (negsuc n) (negsuc k) small less same = signed_decimal_injective (negsuc n) (negsuc k) (omega (arith, small)) (omega (arith, less)) same

sign-free : (z : ℤ) → Free 10 (sign z)
sign-free (pos n) = tt
sign-free (negsuc n) = (λ is. omega (arith, is), tt)

four-free : (n : ℕ) → Free 10 (four_digits n)
four-free n = (λ is. omega (arith, is), (λ is. omega (arith, is), (λ is. omega (arith, is), (λ is. omega (arith, is), tt))))

number-free : (z : ℤ) → Free 10 (number_text z)
number-free z =
    free-append 10 (sign z) (size_text (unsigned_abs z)) (sign-free z)
    (free-append 10 (decimal (unsigned_abs z / 10000)) (46 ∷ four_digits (unsigned_abs z)) (decimal-free 10 (unsigned_abs z / 10000) (omega arith)) (λ is. omega (arith, is), four-free (unsigned_abs z)))

text-free : (bytes : List ℕ) → IsTrue (list_all is_text_byte bytes) → Free 10 bytes
text-free [] text = tt
text-free (b ∷ bytes) text =
    let parts = and_parts (is_text_byte b) (list_all is_text_byte bytes) text in
    let low = leb-true 32 b (and_parts (nat_le 32 b) (nat_le b 126) parts.0).0 in
    (λ is. omega (arith, low, is), text-free bytes parts.1)

cell-free : (cell : Cell) → IsCellTold cell → Free 10 (cell_text cell)
cell-free Na told = (λ is. omega (arith, is), (λ is. omega (arith, is), tt))
cell-free (Num z) told = number-free z
cell-free (Int z) told = signed-free z
cell-free (Text bytes) told = text-free bytes told
cell-free (Bool true) told = (λ is. omega (arith, is), (λ is. omega (arith, is), (λ is. omega (arith, is), tt)))
cell-free (Bool false) told = (λ is. omega (arith, is), (λ is. omega (arith, is), tt))
cell-free (Slot slot) told = decimal-free 10 slot (omega arith)

truth-same : (a b : Truth) → cell_text (Bool a) ≡ cell_text (Bool b) → Bool a ≡ Bool b
truth-same true true same = refl
truth-same false false same = refl
truth-same true false same = let heads : first (cell_text (Bool true)) ≡ first (cell_text (Bool false)) = ap first same in absurd (omega (arith, heads))
truth-same false true same = let heads : first (cell_text (Bool false)) ≡ first (cell_text (Bool true)) = ap first same in absurd (omega (arith, heads))

-- ---- lines one after the other

-- the texts begin with a blank, and what stands behind one of them can be told from it
record Tells {A : Type 0} (text : A → List ℕ) (Good : A → Type 0) : Type 0 where
  begins : (one : A) (x : List ℕ) → first (text one ++ x) ≡ 32
  apart : (one other : A) (x y : List ℕ) → Good one → Good other → text one ++ x ≡ text other ++ y → (one ≡ other) × (x ≡ y)

-- so can what stands behind many, if it begins with no blank
lines-tell : {A : Type 0} (text : A → List ℕ) (Good : A → Type 0) → Tells text Good → (one other : List A) (x y : List ℕ) →
    All Good one → All Good other → first x ≢ 32 → first y ≢ 32 → flat_map text one ++ x ≡ flat_map text other ++ y → (one ≡ other) × (x ≡ y)
lines-tell text Good tells [] [] x y good goods unblank others same = (refl, same)
lines-tell text Good tells [] (b ∷ other) x y good goods unblank others same =
    absurd (unblank (ap first same ∙ ap first (append_assoc (text b) (flat_map text other) y) ∙ tells.begins b (flat_map text other ++ y)))
lines-tell text Good tells (a ∷ one) [] x y good goods unblank others same =
    absurd (others (sym (ap first same) ∙ ap first (append_assoc (text a) (flat_map text one) x) ∙ tells.begins a (flat_map text one ++ x)))
lines-tell {A} text Good tells (a ∷ one) (b ∷ other) x y good goods unblank others same =
    let parts = tells.apart a b (flat_map text one ++ x) (flat_map text other ++ y) (All-head Good a one good) (All-head Good b other goods)
    (sym (append_assoc (text a) (flat_map text one) x) ∙ same ∙ append_assoc (text b) (flat_map text other) y) in
    let rest = lines-tell text Good tells one other x y (All-tail Good a one good) (All-tail Good b other goods) unblank others parts.1 in
    (ap₂ (λ (item : A) (items : List A). item ∷ items) parts.0 rest.0, rest.1)

-- the text of a line
line-text : (one other x y : List ℕ) → Free 10 one → Free 10 other → line_of one ++ x ≡ line_of other ++ y → (one ≡ other) × (x ≡ y)
line-text one other x y free more same =
    until 10 one other x y free more (sym (append_assoc one (10 ∷ []) x) ∙ ap (drop 2) same ∙ append_assoc other (10 ∷ []) y)

-- ---- values, slots and cells

-- a value of a dimension that can be told
abbrev IsTextEntry : Entry → Type 0
IsTextEntry entry = (entry.0 < 65536) × IsTrue (list_all is_text_byte entry.1)

value-free : (entry : Entry) → IsTextEntry entry → Free 10 (decimal entry.0 ++ 32 ∷ entry.1)
value-free entry good =
    free-append 10 (decimal entry.0) (32 ∷ entry.1) (decimal-free 10 entry.0 (omega arith)) (λ is. omega (arith, is), text-free entry.1 good.1)

value-apart : (one other : Entry) (x y : List ℕ) → IsTextEntry one → IsTextEntry other → value_line one ++ x ≡ value_line other ++ y → (one ≡ other) × (x ≡ y)
value-apart one other x y good goods same =
    let texts = line-text (decimal one.0 ++ 32 ∷ one.1) (decimal other.0 ++ 32 ∷ other.1) x y (value-free one good) (value-free other goods) same in
    let parts = until 32 (decimal one.0) (decimal other.0) one.1 other.1 (decimal-free 32 one.0 (omega arith)) (decimal-free 32 other.0 (omega arith)) texts.0 in
    let slots = decimal-same one.0 other.0 (omega (arith, good.0)) (omega (arith, goods.0)) parts.0 in
    let entries : one ≡ other = λ i. (slots i, parts.1 i) in
    (entries, texts.1)

values-tell : Tells value_line IsTextEntry
values-tell = record { begins = λ one x. refl; apart = value-apart }

abbrev IsSlot : ℕ → Type 0
IsSlot slot = slot < 65536

slot-apart : (one other : ℕ) (x y : List ℕ) → one < 65536 → other < 65536 → slot_line one ++ x ≡ slot_line other ++ y → (one ≡ other) × (x ≡ y)
slot-apart one other x y good goods same =
    let texts = line-text (decimal one) (decimal other) x y (decimal-free 10 one (omega arith)) (decimal-free 10 other (omega arith)) same in
    (decimal-same one other (omega (arith, good)) (omega (arith, goods)) texts.0, texts.1)

slots-tell : Tells slot_line IsSlot
slots-tell = record { begins = λ one x. refl; apart = slot-apart }

-- the first slot of a key, and then the others
key-form : (slot : ℕ) (slots x : List ℕ) → key_text (slot ∷ slots) ++ x ≡ decimal slot ++ 32 ∷ (key_text slots ++ x)
key-form slot slots x =
    append_assoc (decimal slot ++ 32 ∷ []) (key_text slots) x ∙ append_assoc (decimal slot) (32 ∷ []) (key_text slots ++ x)

key-free : (slots : List ℕ) → Free 10 (key_text slots)
key-free [] = tt
key-free (slot ∷ slots) =
    free-append 10 (decimal slot ++ 32 ∷ []) (key_text slots)
    (free-append 10 (decimal slot) (32 ∷ []) (decimal-free 10 slot (omega arith)) (λ is. omega (arith, is), tt)) (key-free slots)

keys-tell : (one other x y : List ℕ) → AreSlots one → AreSlots other → length one ≡ length other → key_text one ++ x ≡ key_text other ++ y → (one ≡ other) × (x ≡ y)
keys-tell [] [] x y good goods size same = (refl, same)
keys-tell [] (t ∷ other) x y good goods size same = absurd (omega (arith, size))
keys-tell (s ∷ one) [] x y good goods size same = absurd (omega (arith, size))
keys-tell (s ∷ one) (t ∷ other) x y good goods size same =
    let parts = until 32 (decimal s) (decimal t) (key_text one ++ x) (key_text other ++ y) (decimal-free 32 s (omega arith)) (decimal-free 32 t (omega arith))
    (sym (key-form s one x) ∙ same ∙ key-form t other y) in
    let rest = keys-tell one other x y (All-tail IsSlot s one good) (All-tail IsSlot t other goods) (omega (arith, size)) parts.1 in
    let slots = decimal-same s t (omega (arith, All-head IsSlot s one good)) (omega (arith, All-head IsSlot t other goods)) parts.0 in
    (ap₂ (λ (slot : ℕ) (slots : List ℕ). slot ∷ slots) slots rest.0, rest.1)

-- a cell that isn't NA, of this kind, at a key of so many slots
record IsCellOf (slots : ℕ) (kind : Kind) (pair : KeyedCell) : Type 0 where
  size : length pair.0 ≡ slots
  are_slots : AreSlots pair.0
  of_kind : IsTrue (is_of_kind kind pair.1)
  present : IsTrue (not (is_na pair.1))
  told : IsCellTold pair.1

abbrev cell_words : KeyedCell → List ℕ
cell_words pair = key_text pair.0 ++ codes "= " ++ cell_text pair.1

words-free : (pair : KeyedCell) → IsCellTold pair.1 → Free 10 (cell_words pair)
words-free pair told =
    free-append 10 (key_text pair.0 ++ codes "= ") (cell_text pair.1)
    (free-append 10 (key_text pair.0) (codes "= ") (key-free pair.0) (λ is. omega (arith, is), (λ is. omega (arith, is), tt))) (cell-free pair.1 told)

module _ (told_apart : TextsTellApart) where
  cell-same : (kind : Kind) (c d : Cell) → IsTrue (is_of_kind kind c) → IsTrue (is_of_kind kind d) → IsTrue (not (is_na c)) → IsTrue (not (is_na d)) → IsCellTold c → IsCellTold d → cell_text c ≡ cell_text d → c ≡ d
  cell-same NumberKind (Num z) (Num w) of of' some some' told told' same = ap Num (told_apart z w told told' same)
  cell-same IntegerKind (Int z) (Int w) of of' some some' told told' same = ap Int (signed-same z w told told' same)
  cell-same TextKind (Text a) (Text b) of of' some some' told told' same = ap Text same
  cell-same BooleanKind (Bool a) (Bool b) of of' some some' told told' same = truth-same a b same
  cell-same SlotKind (Slot s) (Slot t) of of' some some' told told' same = ap Slot (decimal-same s t (omega (arith, told)) (omega (arith, told')) same)
  cell-same kind c d of of' some some' told told' same = cc

  cell-apart : (slots : ℕ) (kind : Kind) (one other : KeyedCell) (x y : List ℕ) → IsCellOf slots kind one → IsCellOf slots kind other → cell_line one ++ x ≡ cell_line other ++ y → (one ≡ other) × (x ≡ y)
  cell-apart slots kind one other x y good goods same =
      let texts = line-text (cell_words one) (cell_words other) x y (words-free one good.told) (words-free other goods.told) same in
      let keys = keys-tell one.0 other.0 (codes "= " ++ cell_text one.1) (codes "= " ++ cell_text other.1) good.are_slots goods.are_slots (good.size ∙ sym goods.size)
      (sym (append_assoc (key_text one.0) (codes "= ") (cell_text one.1)) ∙ texts.0 ∙ append_assoc (key_text other.0) (codes "= ") (cell_text other.1)) in
      let cells = cell-same kind one.1 other.1 good.of_kind goods.of_kind good.present goods.present good.told goods.told (ap (drop 2) keys.1) in
      let pairs : one ≡ other = λ i. (keys.0 i, cells i) in
      (pairs, texts.1)

  cells-tell : (slots : ℕ) (kind : Kind) → Tells cell_line (IsCellOf slots kind)
  cells-tell slots kind = record { begins = λ one x. refl; apart = cell-apart slots kind }

-- ---- what holds of the items of a body

slots-below : (slots : List ℕ) → IsTrue (list_all (λ slot. nat_lt slot 65536) slots) → AreSlots slots
slots-below [] below = All-nil IsSlot
slots-below (slot ∷ slots) below =
    let parts = and_parts (nat_lt slot 65536) (list_all (λ s. nat_lt s 65536) slots) below in
    All-cons IsSlot slot slots (ltb-true slot 65536 parts.0) (slots-below slots parts.1)

pair-of : (slots : ℕ) (kind : Kind) (pair : KeyedCell) → IsTrue (is_pair_of slots kind pair) → IsTrue (not (is_na pair.1)) → IsCellTold pair.1 → IsCellOf slots kind pair
pair-of slots kind pair of present told =
    let parts = and_parts ((length pair.0 == slots) && list_all (λ slot. nat_lt slot 65536) pair.0) (is_of_kind kind pair.1) of in
    let keys = and_parts (length pair.0 == slots) (list_all (λ slot. nat_lt slot 65536) pair.0) parts.0 in
    record { size = eqb-true (length pair.0) slots keys.0; are_slots = slots-below pair.0 keys.1; of_kind = parts.1; present = present; told = told }

cells-of : (slots : ℕ) (kind : Kind) (cells : Cells) → IsTrue (list_all (is_pair_of slots kind) cells) → IsTrue (list_all (λ pair. not (is_na pair.1)) cells) → All (λ pair. IsCellTold pair.1) cells → All (IsCellOf slots kind) cells
cells-of slots kind [] pairs present told = All-nil (IsCellOf slots kind)
cells-of slots kind (pair ∷ cells) pairs present told =
    let parts = and_parts (is_pair_of slots kind pair) (list_all (is_pair_of slots kind) cells) pairs in
    let some = and_parts (not (is_na pair.1)) (list_all (λ (p : KeyedCell). not (is_na p.1)) cells) present in
    All-cons (IsCellOf slots kind) pair cells
    (pair-of slots kind pair parts.0 some.0 (All-head (λ (p : KeyedCell). IsCellTold p.1) pair cells told))
    (cells-of slots kind cells parts.1 some.1 (All-tail (λ (p : KeyedCell). IsCellTold p.1) pair cells told))

entry-of : (values : DimensionState) (entry : Entry) → values.next ≤ 65536 → entry.0 < values.next → IsValueName entry.1 → IsTextEntry entry
entry-of values entry most below named =
    (omega (arith, most, below), (and_parts (nat_le (length entry.1) 64) (list_all is_text_byte entry.1) named.0).1)

entries-of : (values : DimensionState) → IsDimension values → All IsTextEntry values.entries
entries-of values is = λ k d within. entry-of values _ is.next_most (is.slots_below k d within) (is.names_are_texts k d within)

-- ---- bodies

contents-same : (one other : Contents) → one.slots ≡ other.slots → one.kind ≡ other.kind → one.cells ≡ other.cells → one ≡ other
contents-same one other slots kind cells = λ i. record { slots = slots i; kind = kind i; cells = cells i }

values-same : (one other : DimensionState) → one.entries ≡ other.entries → one.next ≡ other.next → one ≡ other
values-same one other entries next = λ i. record { entries = entries i; next = next i }

-- a count, the end of the line, and what stands behind it
behind-count : (n m : ℕ) (x y : List ℕ) → decimal n ++ 10 ∷ x ≡ decimal m ++ 10 ∷ y → x ≡ y
behind-count n m x y same = (until 10 (decimal n) (decimal m) x y (decimal-free 10 n (omega arith)) (decimal-free 10 m (omega arith)) same).1

dimension-tells : (one other : DimensionState) (x y : List ℕ) → IsDimension one → IsDimension other → first x ≢ 32 → first y ≢ 32 →
    counted (Dim one) ++ 10 ∷ (body_lines (Dim one) ++ x) ≡ counted (Dim other) ++ 10 ∷ (body_lines (Dim other) ++ y) → (Dim one ≡ Dim other) × (x ≡ y)
dimension-tells one other x y is are unblank others same =
    let n = length one.entries in
    let m = length other.entries in
    let free : (count next : ℕ) → Free 10 (decimal count ++ 32 ∷ decimal next) = λ count next. free-append 10 (decimal count) (32 ∷ decimal next) (decimal-free 10 count (omega arith)) (λ is. omega (arith, is), decimal-free 10 next (omega arith)) in
    let counts = until 10 (counted (Dim one)) (counted (Dim other)) (body_lines (Dim one) ++ x) (body_lines (Dim other) ++ y) (free n one.next) (free m other.next) same in
    let parts = until 32 (decimal n) (decimal m) (decimal one.next) (decimal other.next) (decimal-free 32 n (omega arith)) (decimal-free 32 m (omega arith)) counts.0 in
    let next = decimal-same one.next other.next (omega (arith, is.next_most)) (omega (arith, are.next_most)) parts.1 in
    let lines = lines-tell value_line IsTextEntry values-tell one.entries other.entries x y (entries-of one is) (entries-of other are) unblank others counts.1 in
    (ap Dim (values-same one other lines.0 next), lines.1)

valueset-tells : (one other x y : List ℕ) → AreSlots one → AreSlots other → first x ≢ 32 → first y ≢ 32 →
    counted (Set one) ++ 10 ∷ (body_lines (Set one) ++ x) ≡ counted (Set other) ++ 10 ∷ (body_lines (Set other) ++ y) → (Set one ≡ Set other) × (x ≡ y)
valueset-tells one other x y is are unblank others same =
    let lines = lines-tell slot_line IsSlot slots-tell one other x y is are unblank others (behind-count (length one) (length other) _ _ same) in
    (ap Set lines.0, lines.1)

module _ (told_apart : TextsTellApart) where
  contents-tell : (one other : Contents) (x y : List ℕ) → one.slots ≡ other.slots → one.kind ≡ other.kind → AreCellsTold one → AreCellsTold other → first x ≢ 32 → first y ≢ 32 →
      decimal (length one.cells) ++ 10 ∷ (flat_map cell_line one.cells ++ x) ≡ decimal (length other.cells) ++ 10 ∷ (flat_map cell_line other.cells ++ y) → (one ≡ other) × (x ≡ y)
  contents-tell one other x y slots kind told told' unblank others same =
      let good = cells-of one.slots one.kind one.cells told.0.pairs told.0.map.present told.1 in
      let all = cells-of other.slots other.kind other.cells told'.0.pairs told'.0.map.present told'.1 in
      let goods : All (IsCellOf one.slots one.kind) other.cells = subst (λ (k : Kind). All (IsCellOf one.slots k) other.cells) (sym kind) (subst (λ (n : ℕ). All (IsCellOf n other.kind) other.cells) (sym slots) all) in
      let lines = lines-tell cell_line (IsCellOf one.slots one.kind) (cells-tell told_apart one.slots one.kind) one.cells other.cells x y good goods unblank others (behind-count (length one.cells) (length other.cells) _ _ same) in
      (contents-same one other slots kind lines.0, lines.1)

  body-tells : (kind : DefKind) (one other : Body) (x y : List ℕ) → IsBodyOf kind one → IsBodyOf kind other → IsBodyTold one → IsBodyTold other → first x ≢ 32 → first y ≢ 32 →
      counted one ++ 10 ∷ (body_lines one ++ x) ≡ counted other ++ 10 ∷ (body_lines other ++ y) → (one ≡ other) × (x ≡ y)
  body-tells Dimension (Dim one) (Dim other) x y of of' told told' unblank others same = dimension-tells one other x y told told' unblank others same
  body-tells (Valueset dimension) (Set one) (Set other) x y of of' told told' unblank others same = valueset-tells one other x y told told' unblank others same
  body-tells (Relation target base) (Rel one) (Rel other) x y of of' told told' unblank others same =
      let it = contents-tell one other x y (of.0 ∙ sym of'.0) (of.1 ∙ sym of'.1) told told' unblank others same in
      (ap Rel it.0, it.1)
  body-tells (Variable kind dimensions) (Var one) (Var other) x y of of' told told' unblank others same =
      let it = contents-tell one other x y (of.0 ∙ sym of'.0) (of.1 ∙ sym of'.1) told told' unblank others same in
      (ap Var it.0, it.1)
  body-tells Dimension (Dim one) other x y of of' told told' unblank others same = absurd of'
  body-tells Dimension one other x y of of' told told' unblank others same = absurd of
  body-tells (Valueset dimension) (Set one) other x y of of' told told' unblank others same = absurd of'
  body-tells (Valueset dimension) one other x y of of' told told' unblank others same = absurd of
  body-tells (Relation target base) (Rel one) other x y of of' told told' unblank others same = absurd of'
  body-tells (Relation target base) one other x y of of' told told' unblank others same = absurd of
  body-tells (Variable kind dimensions) (Var one) other x y of of' told told' unblank others same = absurd of'
  body-tells (Variable kind dimensions) one other x y of of' told told' unblank others same = absurd of
  body-tells (Formula text) one other x y of of' told told' unblank others same = absurd of
  body-tells (Program text) one other x y of of' told told' unblank others same = absurd of
  body-tells (Aggmap text) one other x y of of' told told' unblank others same = absurd of

-- ---- objects

heading-form : (name : List ℕ) (n : ℕ) (counts x : List ℕ) → heading name n counts ++ x ≡ name ++ 32 ∷ (decimal n ++ 32 ∷ (counts ++ 10 ∷ x))
heading-form name n counts x =
    append_assoc ((name ++ 32 ∷ decimal n) ++ 32 ∷ counts) (10 ∷ []) x
    ∙ append_assoc (name ++ 32 ∷ decimal n) (32 ∷ counts) (10 ∷ x)
    ∙ append_assoc name (32 ∷ decimal n) (32 ∷ (counts ++ 10 ∷ x))

object-form : (name : List ℕ) (n : ℕ) (body : Body) (x : List ℕ) →
    dumped_object name n body ++ x ≡ name ++ 32 ∷ (decimal n ++ 32 ∷ (counted body ++ 10 ∷ (body_lines body ++ x)))
object-form name n body x = append_assoc (heading name n (counted body)) (body_lines body) x ∙ heading-form name n (counted body) (body_lines body ++ x)

numbered : (name : List ℕ) (n m : ℕ) (u v : List ℕ) → n < 18446744073709551616 → m < 18446744073709551616 → name ++ 32 ∷ (decimal n ++ 32 ∷ u) ≡ name ++ 32 ∷ (decimal m ++ 32 ∷ v) → (n ≡ m) × (u ≡ v)
numbered name n m u v few less same =
    let parts = until 32 (decimal n) (decimal m) u v (decimal-free 32 n (omega arith)) (decimal-free 32 m (omega arith)) (ap (drop 1) (append_cancel_left name _ _ same)) in
    (decimal_injective n m few less parts.0, parts.1)

-- a name begins with a letter
letter : (name x : List ℕ) → IsTrue (is_name name) → first (name ++ x) ≢ 32
letter [] x named = cc
letter (b ∷ name) x named = λ is. not_blank (ap is_letter (sym is) ∙ begins)
  where
    begins : is_letter b ≡ true
    begins = (and_parts (is_letter b) (nat_le (length (b ∷ name)) 64) (and_parts (is_letter b && nat_le (length (b ∷ name)) 64) (list_all is_name_byte (b ∷ name)) (and_parts (has_name_form (b ∷ name)) (not (list_any (same_word (b ∷ name)) reserved_words)) named).0).0).0

    not_blank : is_letter 32 ≡ true → ⊥
    not_blank is = cc

-- what is dumped of objects begins with no blank
unblank : (definitions : List Def) (objects : List (Option (Object Body))) → AreDumpable definitions objects → first (dumped definitions objects) ≢ 32
unblank [] [] are = λ is. omega (arith, is)
unblank [] (found ∷ objects) are = absurd are
unblank (def ∷ definitions) [] are = absurd are
unblank (def ∷ definitions) (None ∷ objects) are = unblank definitions objects are.2
unblank (def ∷ definitions) (Some it ∷ objects) are =
    λ is. letter def.name _ are.0 (sym (ap first (object-form def.name it.number it.body (dumped definitions objects))) ∙ is)

not-both : (kind : DefKind) (body : Body) → is_kept kind ≡ false → IsBodyOf kind body → ⊥
not-both kind body unkept of = true≢false (sym (kept-kind kind body of) ∙ unkept)

seen-same : (one other : Object Body) → one.number ≡ other.number → one.body ≡ other.body → seen_of (Some one ∷ []) ≡ seen_of (Some other ∷ [])
seen-same one other number body =
    ap₂ (λ (n : ℕ) (b : Body). let seen : List (Option (ℕ × Body)) = Some (n, b) ∷ [] in seen) number body

module _ (told_apart : TextsTellApart) where
  object-tells : (name : List ℕ) (kind : DefKind) (one other : Option (Object Body)) (x y : List ℕ) → IsDumpable kind one → IsDumpable kind other → first x ≢ 32 → first y ≢ 32 →
      dumped_kept name one ++ x ≡ dumped_kept name other ++ y → (seen_of (one ∷ []) ≡ seen_of (other ∷ [])) × (x ≡ y)
  object-tells name kind None None x y is are clear others same = (refl, same)
  object-tells name kind None (Some it) x y is are clear others same = absurd (not-both kind it.body is are.1)
  object-tells name kind (Some it) None x y is are clear others same = absurd (not-both kind it.body are is.1)
  object-tells name kind (Some it) (Some that) x y is are clear others same =
      let number = numbered name it.number that.number _ _ is.0 are.0 (sym (object-form name it.number it.body x) ∙ same ∙ object-form name that.number that.body y) in
      let body = body-tells told_apart kind it.body that.body x y is.1 are.1 is.2 are.2 clear others number.1 in
      (seen-same it that number.0 body.0, body.1)

  pub dump_tells : (definitions : List Def) (one other : List (Option (Object Body))) → DumpTells definitions one other
  dump_tells [] [] [] are others same = refl
  dump_tells [] [] (that ∷ other) are others same = absurd others
  dump_tells [] (it ∷ one) other are others same = absurd are
  dump_tells (def ∷ definitions) [] other are others same = absurd are
  dump_tells (def ∷ definitions) (it ∷ one) [] are others same = absurd others
  dump_tells (def ∷ definitions) (it ∷ one) (that ∷ other) are others same =
      let object = object-tells def.name def.kind it that (dumped definitions one) (dumped definitions other) are.1 others.1 (unblank definitions one are.2) (unblank definitions other others.2) same in
      let rest = dump_tells definitions one other are.2 others.2 object.1 in
      ap₂ (λ (seen more : List (Option (ℕ × Body))). seen ++ more) object.0 rest
