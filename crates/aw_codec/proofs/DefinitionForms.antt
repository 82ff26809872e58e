-- The bytes of a definition are its spelling.
use Rattle.std.specs.Prelude.{ℕ, zero, suc, ◌≡◌, ◌^◌, ◌<◌, ◌≤◌, ◌&&◌, Bool, true, not, List, [], ◌∷◌, ◌++◌, length, All, IsTrue, nat_le}
use Rattle.std.specs.List.{list_all, list_any}
use Rattle.std.specs.Int.{w8, w32, is_in_range, to_be_bytes}
use Rattle.std.proofs.Common.{refl, sym, ap, subst, ◌∙◌, arith}
use Rattle.std.proofs.lemmas.Bool.{and_parts, and_from, leb-true, ltb-true, lt-ltb}
use Rattle.std.proofs.lemmas.List.{append-nil, get_or_default}
use Rattle.std.proofs.lemmas.List.Elements.{All-from_recursion, recursion_from_All}
use Rattle.aw_lists.specs.Coord.{AreSlots}
use Rattle.aw_cell.specs.declared.cell.Kind.{Kind}
use Rattle.aw_cell.specs.declared.cell.Kind.TheVariants.{Num as NumberKind, Int as IntegerKind, Text as TextKind, Bool as BooleanKind, Slot as SlotKind}
use Rattle.aw_cell.specs.Names.{is_name, has_name_form, is_name_byte, is_letter, begins_with, same_word, reserved_words}
use Rattle.aw_schema.specs.declared.definition.Def.{Def}
use Rattle.aw_schema.specs.declared.definition.DefKind.{DefKind}
use Rattle.aw_schema.specs.declared.definition.DefKind.TheVariants.{Dimension, Relation, Valueset, Variable, Formula, Program, Aggmap}
use Rattle.aw_schema.specs.Definitions.{has_form, is_type}
use Rattle.aw_codec.specs.Formats.{Format, ended, ◌>>=◌, number, bytes_of, many, IsWhole}
use Rattle.aw_codec.specs.RecordFormat.{short, long, shorts, long_text, relation, valueset, variable, type_of, texted, behind_kind, definition}
use Rattle.aw_codec.specs.Spellings as spelling
use Rattle.aw_codec.specs.Spellings.{type_byte}
use Rattle.aw_codec.specs.Records.{AreInRange, IsDefinition}
use Rattle.aw_codec.proofs.Parts.{AreBytes, Reads, parts, joined, ended_is, ended_whole, bytes_are, bytes_whole, range_is, range_whole, least_is, least_whole, count_is, count_whole}
use Rattle.aw_codec.proofs.Many.{together, many_are, many_whole, each_fits, fit_each}

-- ---- numbers of 2 bytes

abbrev IsShort : List ℕ → ℕ → Type 0
IsShort before n = n < 2 ^ 16

short_is : (before : List ℕ) (bytes : List ℕ) (n : ℕ) → Reads short bytes n → (bytes ≡ spelling.short n) × IsShort before n
short_is before bytes n reads = let is = least_is 0 bytes n reads in (is.0, is.2)

short_whole : (before : List ℕ) (n : ℕ) → IsShort before n → IsWhole short (spelling.short n) n
short_whole before n small = least_whole 0 n (omega arith) small

pub shorts_are : (count : ℕ) (bytes ns : List ℕ) → Reads (shorts count) bytes ns → (bytes ≡ spelling.shorts ns) × (length ns ≡ count) × AreSlots ns
unfolding shorts
shorts_are count bytes ns reads =
    let found = many_are (λ _. short) spelling.short IsShort short_is count [] bytes ns reads in
    rw found.is (found.same, found.size, All-from_recursion (λ n. n < 65536) found.xs (each_fits (λ n. n < 2 ^ 16) [] found.xs found.fit))

pub shorts_whole : (ns : List ℕ) → AreSlots ns → IsWhole (shorts (length ns)) (spelling.shorts ns) ns
unfolding shorts
shorts_whole ns slots = many_whole (λ _. short) spelling.short IsShort short_whole [] ns (fit_each (λ n. n < 2 ^ 16) [] ns (recursion_from_All (λ n. n < 65536) ns slots))

-- ---- texts

all_bytes : (text : List ℕ) → AreBytes text → All (λ b. b < 256) text
all_bytes text each k d lt = subst (λ (b : ℕ). b < 256) (get_or_default text k 0 d lt) (each k)

any_bytes : List ℕ → Bool
any_bytes text = true

long_text_is : (bytes text : List ℕ) → Reads long_text bytes text → (bytes ≡ spelling.long_text text) × (length text < 2 ^ 32) × All (λ b. b < 256) text
unfolding long_text
long_text_is bytes text reads =
    let a = parts long (λ size. bytes_of size (λ _. true) >>= λ found. ended found) bytes text reads in
    let (size, least, small) = count_is 0 a.front a.v a.first in
    let b = parts (bytes_of a.v (λ _. true)) (λ found. ended found) a.back text a.second in
    let (same, many, passes) = bytes_are a.v (λ _. true) b.front b.v b.first in
    let (is, none) = ended_is b.v text b.back b.second.whole in
    let rest : a.back ≡ b.v = together b.same same none ∙ append-nil b.v in
    let here : bytes ≡ spelling.long_text b.v = together a.same (size ∙ ap (to_be_bytes w32) (sym many)) rest in
    let each : AreBytes b.v = subst AreBytes same b.first.each in
    rw is (here, omega (arith, many), all_bytes b.v each)

long_text_whole : (text : List ℕ) → length text < 2 ^ 32 → IsWhole long_text (spelling.long_text text) text
unfolding long_text
long_text_whole text small =
    let from_bytes = joined (bytes_of (length text) (λ _. true)) (λ found. ended found) text [] text text (bytes_whole (λ _. true) text refl) (ended_whole text) in
    rw append-nil at (joined long (λ size. bytes_of size (λ _. true) >>= λ found. ended found) (to_be_bytes w32 (length text)) (text ++ []) (length text) text (count_whole 0 (length text) (omega arith) small) from_bytes)

-- ---- kinds

-- the bytes are the spelling of a kind, which is one that a record can hold
abbrev IsKind : ℕ → List ℕ → DefKind → Type 0
IsKind byte bytes kind = (byte ∷ bytes ≡ spelling.kind kind) × IsTrue (has_form kind) × AreInRange kind

relation_is : (bytes : List ℕ) (kind : DefKind) → Reads relation bytes kind → IsKind 1 bytes kind
unfolding relation
relation_is bytes kind reads =
    let a = parts short (λ target. short >>= λ base. ended (Relation target base)) bytes kind reads in
    let (target, _, small) = least_is 0 a.front a.v a.first in
    let b = parts short (λ base. ended (Relation a.v base)) a.back kind a.second in
    let (base, _, small-2) = least_is 0 b.front b.v b.first in
    let (is, none) = ended_is (Relation a.v b.v) kind b.back b.second.whole in
    let here : bytes ≡ spelling.short a.v ++ spelling.short b.v = together a.same target (together b.same base none ∙ append-nil (spelling.short b.v)) in
    rw is (ap (λ (b : List ℕ). 1 ∷ b) here, refl, (small, small-2))

relation_whole : (target base : ℕ) → target < 2 ^ 16 → base < 2 ^ 16 → IsWhole relation (spelling.short target ++ spelling.short base) (Relation target base)
unfolding relation
relation_whole target base small small-2 =
    let kind = Relation target base in
    let from_base = joined short (λ b. ended (Relation target b)) (spelling.short base) [] base kind (least_whole 0 base (omega arith) small-2) (ended_whole kind) in
    rw append-nil at (joined short (λ t. short >>= λ b. ended (Relation t b)) (spelling.short target) (spelling.short base ++ []) target kind (least_whole 0 target (omega arith) small) from_base)

valueset_is : (bytes : List ℕ) (kind : DefKind) → Reads valueset bytes kind → IsKind 2 bytes kind
unfolding valueset
valueset_is bytes kind reads =
    let a = parts short (λ dimension. ended (Valueset dimension)) bytes kind reads in
    let (dimension, _, small) = least_is 0 a.front a.v a.first in
    let (is, none) = ended_is (Valueset a.v) kind a.back a.second.whole in
    let here : bytes ≡ spelling.short a.v = together a.same dimension none ∙ append-nil (spelling.short a.v) in
    rw is (ap (λ (b : List ℕ). 2 ∷ b) here, refl, small)

valueset_whole : (dimension : ℕ) → dimension < 2 ^ 16 → IsWhole valueset (spelling.short dimension) (Valueset dimension)
unfolding valueset
valueset_whole dimension small =
    rw append-nil at (joined short (λ d. ended (Valueset d)) (spelling.short dimension) [] dimension (Valueset dimension) (least_whole 0 dimension (omega arith) small) (ended_whole (Valueset dimension)))

type_is : (byte : ℕ) → 1 ≤ byte → byte ≤ 4 → (byte ≡ type_byte (type_of byte)) × IsTrue (is_type (type_of byte))
type_is zero least most = absurd (omega arith)
type_is (suc zero) least most = (refl, refl)
type_is (suc (suc zero)) least most = (refl, refl)
type_is (suc (suc (suc zero))) least most = (refl, refl)
type_is (suc (suc (suc (suc zero)))) least most = (refl, refl)
type_is (suc (suc (suc (suc (suc n))))) least most = absurd (omega arith)

abbrev behind_count : ℕ → ℕ → Format DefKind
behind_count type count = shorts count >>= λ dimensions. ended (Variable (type_of type) dimensions)

abbrev behind_type : ℕ → Format DefKind
behind_type type = number w8 (is_in_range 0 6) >>= behind_count type

variable_is : (bytes : List ℕ) (kind : DefKind) → Reads variable bytes kind → IsKind 3 bytes kind
unfolding variable
variable_is bytes kind reads =
    let a = parts (number w8 (is_in_range 1 4)) behind_type bytes kind reads in
    let (type, low, high) = range_is 1 4 a.front a.v a.first in
    let b = parts (number w8 (is_in_range 0 6)) (behind_count a.v) a.back kind a.second in
    let (count, _, most) = range_is 0 6 b.front b.v b.first in
    let c = parts (shorts b.v) (λ dimensions. ended (Variable (type_of a.v) dimensions)) b.back kind b.second in
    let (dimensions, many, slots) = shorts_are b.v c.front c.v c.first in
    let (is, none) = ended_is (Variable (type_of a.v) c.v) kind c.back c.second.whole in
    let typed = type_is a.v low high in
    let rest : b.back ≡ spelling.shorts c.v = together c.same dimensions none ∙ append-nil (spelling.shorts c.v) in
    let from_count : a.back ≡ length c.v ∷ spelling.shorts c.v = together b.same (count ∙ ap (λ (n : ℕ). n ∷ []) (sym many)) rest in
    let here : bytes ≡ type_byte (type_of a.v) ∷ length c.v ∷ spelling.shorts c.v = together a.same (type ∙ ap (λ (n : ℕ). n ∷ []) typed.0) from_count in
    rw is (ap (λ (b : List ℕ). 3 ∷ b) here, typed.1, (slots, omega (arith, many)))

byte_of_type : (type : Kind) → IsTrue (is_type type) → (1 ≤ type_byte type) × (type_byte type ≤ 4) × (type_of (type_byte type) ≡ type)
byte_of_type NumberKind is = (omega arith, omega arith, refl)
byte_of_type IntegerKind is = (omega arith, omega arith, refl)
byte_of_type TextKind is = (omega arith, omega arith, refl)
byte_of_type BooleanKind is = (omega arith, omega arith, refl)
byte_of_type SlotKind is = absurd cc

variable_whole : (type : Kind) (dimensions : List ℕ) → IsTrue (is_type type) → AreSlots dimensions → length dimensions ≤ 6
    → IsWhole variable (type_byte type ∷ length dimensions ∷ spelling.shorts dimensions) (Variable type dimensions)
unfolding variable
variable_whole type dimensions is slots most =
    let kind = Variable type dimensions in
    let (low, high, back) = byte_of_type type is in
    let last : IsWhole (ended (Variable (type_of (type_byte type)) dimensions)) [] kind = rw back (ended_whole kind) in
    let from_dimensions = joined (shorts (length dimensions)) (λ found. ended (Variable (type_of (type_byte type)) found)) (spelling.shorts dimensions) [] dimensions kind (shorts_whole dimensions slots) last in
    let from_count = joined (number w8 (is_in_range 0 6)) (behind_count (type_byte type)) (length dimensions ∷ []) (spelling.shorts dimensions ++ []) (length dimensions) kind (range_whole 0 6 (length dimensions) (omega arith) most) from_dimensions in
    rw append-nil at (joined (number w8 (is_in_range 1 4)) behind_type (type_byte type ∷ []) (length dimensions ∷ spelling.shorts dimensions ++ []) (type_byte type) kind (range_whole 1 4 (type_byte type) low high) from_count)

-- the text of a kind, by what it makes
texted_is : (make : List ℕ → DefKind) (bytes : List ℕ) (kind : DefKind) → Reads (texted make) bytes kind
    → (text : List ℕ) × (kind ≡ make text) × (bytes ≡ spelling.long_text text) × (length text < 2 ^ 32) × All (λ b. b < 256) text
unfolding texted
texted_is make bytes kind reads =
    let a = parts long_text (λ text. ended (make text)) bytes kind reads in
    let (same, small, each) = long_text_is a.front a.v a.first in
    let (is, none) = ended_is (make a.v) kind a.back a.second.whole in
    (a.v, is, together a.same same none ∙ append-nil (spelling.long_text a.v), small, each)

texted_whole : (make : List ℕ → DefKind) (text : List ℕ) → length text < 2 ^ 32 → IsWhole (texted make) (spelling.long_text text) (make text)
unfolding texted
texted_whole make text small =
    rw append-nil at (joined long_text (λ found. ended (make found)) (spelling.long_text text) [] text (make text) (long_text_whole text small) (ended_whole (make text)))

formula_is : (bytes : List ℕ) (kind : DefKind) → Reads (texted Formula) bytes kind → IsKind 4 bytes kind
formula_is bytes kind reads =
    let (text, is, same, small, each) = texted_is Formula bytes kind reads in
    rw is (ap (λ (b : List ℕ). 4 ∷ b) same, lt-ltb (length text) 4294967296 small, each)

program_is : (bytes : List ℕ) (kind : DefKind) → Reads (texted Program) bytes kind → IsKind 5 bytes kind
program_is bytes kind reads =
    let (text, is, same, small, each) = texted_is Program bytes kind reads in
    rw is (ap (λ (b : List ℕ). 5 ∷ b) same, lt-ltb (length text) 4294967296 small, each)

aggmap_is : (bytes : List ℕ) (kind : DefKind) → Reads (texted Aggmap) bytes kind → IsKind 6 bytes kind
aggmap_is bytes kind reads =
    let (text, is, same, small, each) = texted_is Aggmap bytes kind reads in
    rw is (ap (λ (b : List ℕ). 6 ∷ b) same, lt-ltb (length text) 4294967296 small, each)

-- what is read behind the byte of a kind, by the byte
by_kind : (P : ℕ → Format DefKind → Type 0) → P 0 (ended Dimension) → P 1 relation → P 2 valueset → P 3 variable → P 4 (texted Formula) → P 5 (texted Program) → P 6 (texted Aggmap)
    → (kind : ℕ) → kind ≤ 6 → P kind (behind_kind kind)
by_kind P a b c d e f g zero most = a
by_kind P a b c d e f g (suc zero) most = b
by_kind P a b c d e f g (suc (suc zero)) most = c
by_kind P a b c d e f g (suc (suc (suc zero))) most = d
by_kind P a b c d e f g (suc (suc (suc (suc zero)))) most = e
by_kind P a b c d e f g (suc (suc (suc (suc (suc zero))))) most = f
by_kind P a b c d e f g (suc (suc (suc (suc (suc (suc zero)))))) most = g
by_kind P a b c d e f g (suc (suc (suc (suc (suc (suc (suc n))))))) most = absurd (omega arith)

kind_is : (bytes : List ℕ) (kind : DefKind) (byte : ℕ) → byte ≤ 6 → Reads (behind_kind byte) bytes kind → IsKind byte bytes kind
kind_is bytes kind =
    by_kind (λ byte behind. Reads behind bytes kind → IsKind byte bytes kind)
    (λ reads. let (is, nothing) = ended_is Dimension kind bytes reads.whole in rw is (ap (λ (b : List ℕ). 0 ∷ b) nothing, refl, tt))
    (relation_is bytes kind) (valueset_is bytes kind) (variable_is bytes kind) (formula_is bytes kind) (program_is bytes kind) (aggmap_is bytes kind)

-- ---- definitions

abbrev behind_byte : List ℕ → ℕ → Format Def
behind_byte name byte = behind_kind byte >>= λ kind. ended (record { name = name; kind = kind })

abbrev behind_name : List ℕ → Format Def
behind_name name = number w8 (is_in_range 0 6) >>= behind_byte name

abbrev behind_size : ℕ → Format Def
behind_size size = bytes_of size is_name >>= behind_name

pub definition_is : (bytes : List ℕ) (def : Def) → Reads definition bytes def → (bytes ≡ spelling.definition def) × IsDefinition def
unfolding definition
definition_is bytes def reads =
    let a = parts (number w8 (is_in_range 1 64)) behind_size bytes def reads in
    let (size, _, _) = range_is 1 64 a.front a.v a.first in
    let b = parts (bytes_of a.v is_name) behind_name a.back def a.second in
    let (same, many, named) = bytes_are a.v is_name b.front b.v b.first in
    let c = parts (number w8 (is_in_range 0 6)) (behind_byte b.v) b.back def b.second in
    let (byte, _, most) = range_is 0 6 c.front c.v c.first in
    let d = parts (behind_kind c.v) (λ kind. ended (record { name = b.v; kind = kind })) c.back def c.second in
    let (kind, form, range) = kind_is d.front d.v c.v most d.first in
    let (is, none) = ended_is (record { name = b.v; kind = d.v }) def d.back d.second.whole in
    let from_kind : c.back ≡ d.front = together d.same refl none ∙ append-nil d.front in
    let from_byte : b.back ≡ spelling.kind d.v = together c.same byte from_kind ∙ kind in
    let from_name : a.back ≡ b.v ++ spelling.kind d.v = together b.same same from_byte in
    let here : bytes ≡ length b.v ∷ b.v ++ spelling.kind d.v = together a.same (size ∙ ap (λ (n : ℕ). n ∷ []) (sym many)) from_name in
    rw is (here, (and_from (is_name b.v) (has_form d.v) named form, range))

-- the length of a name
pub name_size : (name : List ℕ) → IsTrue (is_name name) → (1 ≤ length name) × (length name ≤ 64)
name_size [] named = absurd cc
name_size (b ∷ name) named =
    let form = and_parts (has_name_form (b ∷ name)) (not (list_any (same_word (b ∷ name)) reserved_words)) named in
    let front = begins_with is_letter (b ∷ name) && nat_le (length (b ∷ name)) 64 in
    let shaped = and_parts front (list_all is_name_byte (b ∷ name)) form.0 in
    let sized = and_parts (begins_with is_letter (b ∷ name)) (nat_le (length (b ∷ name)) 64) shaped.0 in
    (omega arith, leb-true (length (b ∷ name)) 64 sized.1)

with_byte : (name : List ℕ) (byte : ℕ) (bytes : List ℕ) (kind : DefKind) → IsTrue (is_name name) → byte ≤ 6 → IsWhole (behind_kind byte) bytes kind
    → IsWhole definition (length name ∷ name ++ byte ∷ bytes) (record { name = name; kind = kind })
unfolding definition
with_byte name byte bytes kind named most whole =
    let def : Def = record { name = name; kind = kind } in
    let from_kind = joined (behind_kind byte) (λ found. ended (record { name = name; kind = found })) bytes [] kind def whole (ended_whole def) in
    let from_byte = joined (number w8 (is_in_range 0 6)) (behind_byte name) (byte ∷ []) (bytes ++ []) byte def (range_whole 0 6 byte (omega arith) most) from_kind in
    let from_name = joined (bytes_of (length name) is_name) behind_name name (byte ∷ (bytes ++ [])) name def (bytes_whole is_name name named) from_byte in
    let (low, high) = name_size name named in
    subst (λ (b : List ℕ). IsWhole definition (length name ∷ (name ++ (byte ∷ b))) def) (append-nil bytes)
    (joined (number w8 (is_in_range 1 64)) behind_size (length name ∷ []) (name ++ (byte ∷ (bytes ++ []))) (length name) def (range_whole 1 64 (length name) low high) from_name)

pub definition_whole : (def : Def) → IsDefinition def → IsWhole definition (spelling.definition def) def
definition_whole def (spellable, range) =
    let fits = and_parts (is_name def.name) (has_form def.kind) spellable in
    of_kind def.name def.kind fits.0 fits.1 range
  where
    of_kind : (name : List ℕ) (kind : DefKind) → IsTrue (is_name name) → IsTrue (has_form kind) → AreInRange kind → IsWhole definition (length name ∷ name ++ spelling.kind kind) (record { name = name; kind = kind })
    of_kind name Dimension named form range = with_byte name 0 [] Dimension named (omega arith) (ended_whole Dimension)
    of_kind name (Relation target base) named form (small, small-2) =
        with_byte name 1 (spelling.short target ++ spelling.short base) (Relation target base) named (omega arith) (relation_whole target base small small-2)
    of_kind name (Valueset dimension) named form small =
        with_byte name 2 (spelling.short dimension) (Valueset dimension) named (omega arith) (valueset_whole dimension small)
    of_kind name (Variable type dimensions) named form (slots, most) =
        with_byte name 3 (type_byte type ∷ length dimensions ∷ spelling.shorts dimensions) (Variable type dimensions) named (omega arith) (variable_whole type dimensions form slots most)
    of_kind name (Formula text) named form each =
        with_byte name 4 (spelling.long_text text) (Formula text) named (omega arith) (texted_whole Formula text (ltb-true (length text) 4294967296 form))
    of_kind name (Program text) named form each =
        with_byte name 5 (spelling.long_text text) (Program text) named (omega arith) (texted_whole Program text (ltb-true (length text) 4294967296 form))
    of_kind name (Aggmap text) named form each =
        with_byte name 6 (spelling.long_text text) (Aggmap text) named (omega arith) (texted_whole Aggmap text (ltb-true (length text) 4294967296 form))
