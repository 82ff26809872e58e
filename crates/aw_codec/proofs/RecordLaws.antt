-- The bytes of a whole record are its spelling, and each spelling is a whole record.
use Rattle.std.specs.Prelude.{ℕ, ◌≡◌, ◌+◌, ◌≤◌, ◌==◌, ◌||◌, true, List, [], ◌∷◌, ◌++◌, length, IsTrue, nat_le, Option, if◌then◌else◌}
use Rattle.std.specs.List.{flat_map, AllByRecursion}
use Rattle.std.specs.Option.{option_map_or}
use Rattle.std.specs.Int.{w16}
use Rattle.std.proofs.Common.{refl, sym, ap, subst, ◌∙◌, arith, inl, inr}
use Rattle.std.proofs.lemmas.Bool.{and_parts, and_from, or_cases, eqb-true, leb-true, le-leb}
use Rattle.std.proofs.lemmas.List.{append-nil}
use Rattle.std.proofs.lemmas.List.Elements.{All-from_recursion, recursion_from_All}
use Rattle.aw_schema.specs.declared.definition.Def.{Def}
use Rattle.aw_body.specs.declared.change.Change.{Change}
use Rattle.aw_codec.specs.declared.record.Decoded.{Decoded}
use Rattle.aw_codec.specs.declared.record.Decoded.TheVariants.{Definitions, Commit}
use Rattle.aw_codec.specs.Formats.{Format, ended, ◌>>=◌, number, many, IsWhole}
use Rattle.aw_codec.specs.RecordFormat.{constant, either, short, last_of, definition, patch, change, all_definitions, all_changes, record_format}
use Rattle.aw_codec.specs.Spellings as spelling
use Rattle.aw_codec.specs.Records.{IsDefinition, IsChange, IsRecord, rise_from, spelled}
use Rattle.aw_codec.proofs.Parts.{Reads, parts, joined, ended_is, ended_whole, byte_is, byte_whole, range_is, range_whole, least_is, least_whole}
use Rattle.aw_codec.proofs.Many.{together, AreFitting, many_are, many_whole, each_fits, fit_each, last_is}
use Rattle.aw_codec.proofs.DefinitionForms.{definition_is, definition_whole}
use Rattle.aw_codec.proofs.PatchForms.{patch_is, patch_whole}

-- ---- changes

-- the least object that may stand behind these
abbrev least_object : List Change → ℕ
least_object before = option_map_or (λ last. last.object + 1) (last_of before) 0

least_object-append : (before : List Change) (c : Change) → least_object (before ++ c ∷ []) ≡ c.object + 1
least_object-append before c = ap (λ (o : Option Change). option_map_or (λ last. last.object + 1) o 0) (last_is before c)

abbrev IsNext : List Change → Change → Type 0
IsNext before c = (least_object before ≤ c.object) × IsChange c

change_is : (before : List Change) (bytes : List ℕ) (c : Change) → Reads (change before) bytes c → (bytes ≡ spelling.change c) × IsNext before c
unfolding change
change_is before bytes c reads =
    let a = parts (number w16 (nat_le (least_object before))) (λ object. patch >>= λ found. ended (record { object = object; patch = found })) bytes c reads in
    let (object, risen, small) = least_is (least_object before) a.front a.v a.first in
    let b = parts patch (λ found. ended (record { object = a.v; patch = found })) a.back c a.second in
    let (found, fits) = patch_is b.front b.v b.first in
    let (is, none) = ended_is (record { object = a.v; patch = b.v }) c b.back b.second.whole in
    let rest : a.back ≡ spelling.patch b.v = together b.same found none ∙ append-nil (spelling.patch b.v) in
    let here : bytes ≡ spelling.short a.v ++ spelling.patch b.v = together a.same object rest in
    rw is (here, (risen, (small, fits)))

change_whole : (before : List Change) (c : Change) → IsNext before c → IsWhole (change before) (spelling.change c) c
unfolding change
change_whole before c (risen, (small, fits)) =
    let from_patch = joined patch (λ found. ended (record { object = c.object; patch = found })) (spelling.patch c.patch) [] c.patch c (patch_whole c.patch fits) (ended_whole c) in
    rw append-nil at (joined (number w16 (nat_le (least_object before))) (λ object. patch >>= λ found. ended (record { object = object; patch = found })) (spelling.short c.object) (spelling.patch c.patch ++ []) c.object c (least_whole (least_object before) c.object risen small) from_patch)

rises : (before cs : List Change) (least : ℕ) → least_object before ≡ least → AreFitting IsNext before cs → IsTrue (rise_from least cs) × AllByRecursion IsChange cs
rises before [] least is fit = (refl, tt)
rises before (c ∷ cs) least is ((risen, fits), rest) =
    let others = rises (before ++ c ∷ []) cs (c.object + 1) (least_object-append before c) rest in
    (and_from (nat_le least c.object) (rise_from (c.object + 1) cs) (le-leb least c.object (omega arith)) others.0, (fits, others.1))

all_next : (before cs : List Change) (least : ℕ) → least_object before ≡ least → IsTrue (rise_from least cs) → AllByRecursion IsChange cs → AreFitting IsNext before cs
all_next before [] least is rising each = tt
all_next before (c ∷ cs) least is rising (fits, rest) =
    let risen = and_parts (nat_le least c.object) (rise_from (c.object + 1) cs) rising in
    ((omega (arith, leb-true least c.object risen.0), fits), all_next (before ++ c ∷ []) cs (c.object + 1) (least_object-append before c) risen.1 rest)

-- ---- records

abbrev counted_definitions : ℕ → Format Decoded
counted_definitions count = many (λ _. definition) count [] >>= λ defs. ended (Definitions defs)

abbrev counted_changes : ℕ → Format Decoded
counted_changes count = many change count [] >>= λ changes. ended (Commit changes)

abbrev Defined : List Def → Def → Type 0
Defined before def = IsDefinition def

all_definitions_are : (bytes : List ℕ) (r : Decoded) → Reads all_definitions bytes r → (68 ∷ 1 ∷ bytes ≡ spelled r) × IsRecord r
unfolding all_definitions
all_definitions_are bytes r reads =
    let a = parts short counted_definitions bytes r reads in
    let (count, _, small) = least_is 0 a.front a.v a.first in
    let b = parts (many (λ _. definition) a.v []) (λ defs. ended (Definitions defs)) a.back r a.second in
    let found = many_are (λ _. definition) spelling.definition Defined (λ before. definition_is) a.v [] b.front b.v b.first in
    let (is, none) = ended_is (Definitions b.v) r b.back b.second.whole in
    let is-2 : r ≡ Definitions found.xs = is ∙ ap Definitions found.is in
    let rest : a.back ≡ flat_map spelling.definition found.xs = together b.same found.same none ∙ append-nil (flat_map spelling.definition found.xs) in
    let here : bytes ≡ spelling.short (length found.xs) ++ flat_map spelling.definition found.xs = together a.same (count ∙ ap spelling.short (sym found.size)) rest in
    rw is-2 (ap (λ (b : List ℕ). 68 ∷ 1 ∷ b) here, (omega (arith, found.size), All-from_recursion IsDefinition found.xs (each_fits IsDefinition [] found.xs found.fit)))

all_definitions_whole : (defs : List Def) → IsRecord (Definitions defs) → IsWhole all_definitions (spelling.short (length defs) ++ flat_map spelling.definition defs) (Definitions defs)
unfolding all_definitions
all_definitions_whole defs (small, each) =
    let r = Definitions defs in
    let fit = fit_each IsDefinition [] defs (recursion_from_All IsDefinition defs each) in
    let rest = joined (many (λ _. definition) (length defs) []) (λ found. ended (Definitions found)) (flat_map spelling.definition defs) [] defs r (many_whole (λ _. definition) spelling.definition Defined (λ before. definition_whole) [] defs fit) (ended_whole r) in
    rw append-nil at (joined short counted_definitions (spelling.short (length defs)) (flat_map spelling.definition defs ++ []) (length defs) r (least_whole 0 (length defs) (omega arith) small) rest)

all_changes_are : (bytes : List ℕ) (r : Decoded) → Reads all_changes bytes r → (67 ∷ 1 ∷ bytes ≡ spelled r) × IsRecord r
unfolding all_changes
all_changes_are bytes r reads =
    let a = parts (number w16 (nat_le 1)) counted_changes bytes r reads in
    let (count, some, small) = least_is 1 a.front a.v a.first in
    let b = parts (many change a.v []) (λ changes. ended (Commit changes)) a.back r a.second in
    let found = many_are change spelling.change IsNext change_is a.v [] b.front b.v b.first in
    let (is, none) = ended_is (Commit b.v) r b.back b.second.whole in
    let is-2 : r ≡ Commit found.xs = is ∙ ap Commit found.is in
    let rest : a.back ≡ flat_map spelling.change found.xs = together b.same found.same none ∙ append-nil (flat_map spelling.change found.xs) in
    let here : bytes ≡ spelling.short (length found.xs) ++ flat_map spelling.change found.xs = together a.same (count ∙ ap spelling.short (sym found.size)) rest in
    let (rising, each) = rises [] found.xs 0 refl found.fit in
    rw is-2 (ap (λ (b : List ℕ). 67 ∷ 1 ∷ b) here, (omega (arith, found.size), omega (arith, found.size), rising, All-from_recursion IsChange found.xs each))

all_changes_whole : (changes : List Change) → IsRecord (Commit changes) → IsWhole all_changes (spelling.short (length changes) ++ flat_map spelling.change changes) (Commit changes)
unfolding all_changes
all_changes_whole changes (some, small, rising, each) =
    let r = Commit changes in
    let fit = all_next [] changes 0 refl rising (recursion_from_All IsChange changes each) in
    let rest = joined (many change (length changes) []) (λ found. ended (Commit found)) (flat_map spelling.change changes) [] changes r (many_whole change spelling.change IsNext change_whole [] changes fit) (ended_whole r) in
    rw append-nil at (joined (number w16 (nat_le 1)) counted_changes (spelling.short (length changes)) (flat_map spelling.change changes ++ []) (length changes) r (least_whole 1 (length changes) some small) rest)

-- what may stand behind the version
abbrev form : ℕ → Format Decoded
form letter = if letter == 67 then all_changes else all_definitions

abbrev behind_letter : ℕ → Format Decoded
behind_letter letter = constant 1 >>= λ _. form letter

form_is : (letter : ℕ) (bytes : List ℕ) (r : Decoded) → (letter == 67 || letter == 68) ≡ true → Reads (form letter) bytes r → (letter ∷ 1 ∷ bytes ≡ spelled r) × IsRecord r
form_is letter bytes r one reads =
    elim (or_cases (letter == 67) (letter == 68) one) [
      | inl commit ↦
          let is : letter ≡ 67 = eqb-true letter 67 commit in
          let (same, fits) = all_changes_are bytes r (subst (λ (k : ℕ). Reads (form k) bytes r) is reads) in
          (ap (λ (k : ℕ). k ∷ 1 ∷ bytes) is ∙ same, fits)
      | inr define ↦
          let is : letter ≡ 68 = eqb-true letter 68 define in
          let (same, fits) = all_definitions_are bytes r (subst (λ (k : ℕ). Reads (form k) bytes r) is reads) in
          (ap (λ (k : ℕ). k ∷ 1 ∷ bytes) is ∙ same, fits)
    ]

one_is : (bytes : List ℕ) (n : ℕ) → Reads (constant 1) bytes n → bytes ≡ 1 ∷ []
one_is bytes n reads =
    let (same, low, high) = range_is 1 1 bytes n reads in
    let is : n ≡ 1 = omega arith in
    same ∙ ap (λ (b : ℕ). b ∷ []) is

pub record_is : (bytes : List ℕ) (r : Decoded) → Reads record_format bytes r → IsRecord r × (bytes ≡ spelled r)
unfolding record_format
record_is bytes r reads =
    let a = parts (either 67 68) behind_letter bytes r reads in
    let (letter, one) = byte_is (λ byte. byte == 67 || byte == 68) a.front a.v a.first in
    let b = parts (constant 1) (λ _. form a.v) a.back r a.second in
    let (same, fits) = form_is a.v b.back r one b.second in
    (fits, together a.same letter (together b.same (one_is b.front b.v b.first) refl) ∙ same)

pub record_whole : (r : Decoded) → IsRecord r → IsWhole record_format (spelled r) r
unfolding record_format
record_whole (Definitions defs) fits =
    let rest = spelling.short (length defs) ++ flat_map spelling.definition defs in
    let r = Definitions defs in
    let from_version = joined (constant 1) (λ _. form 68) (1 ∷ []) rest 1 r (range_whole 1 1 1 (omega arith) (omega arith)) (all_definitions_whole defs fits) in
    joined (either 67 68) behind_letter (68 ∷ []) (1 ∷ rest) 68 r (byte_whole (λ byte. byte == 67 || byte == 68) 68 refl) from_version
record_whole (Commit changes) fits =
    let rest = spelling.short (length changes) ++ flat_map spelling.change changes in
    let r = Commit changes in
    let from_version = joined (constant 1) (λ _. form 67) (1 ∷ []) rest 1 r (range_whole 1 1 1 (omega arith) (omega arith)) (all_changes_whole changes fits) in
    joined (either 67 68) behind_letter (67 ∷ []) (1 ∷ rest) 67 r (byte_whole (λ byte. byte == 67 || byte == 68) 67 refl) from_version
