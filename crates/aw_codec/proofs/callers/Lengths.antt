-- How many bytes a spelling has.
use Rattle.std.specs.Prelude.{ℕ, ◌≡◌, ◌≤◌, ◌<◌, ◌*◌, ◌+◌, ◌∷◌, [], List, length}
use Rattle.std.specs.List.{flat_map, sum_by}
use Rattle.std.proofs.Common.{refl, sym, subst, ◌∙◌, arith, get_or}
use Rattle.std.proofs.lemmas.List.{length-append}
use Rattle.std.proofs.lemmas.List.Concat.{length-flat_map}
use Rattle.std.proofs.lemmas.List.Sums.{get_or-le-sum_by}
use Rattle.aw_cell.specs.declared.cell.Cell.{Cell}
use Rattle.aw_cell.specs.declared.cell.Cell.TheVariants.{Na, Num, Int, Text, Bool, Slot}
use Rattle.aw_dim.specs.DimensionState as dimension
use Rattle.aw_schema.specs.declared.definition.Def.{Def}
use Rattle.aw_schema.specs.declared.definition.DefKind.{DefKind}
use Rattle.aw_schema.specs.declared.definition.DefKind.TheVariants.{Dimension, Relation, Valueset, Variable, Formula, Program, Aggmap}
use Rattle.aw_body.specs.declared.change.Change.{Change}
use Rattle.aw_body.specs.declared.patch.BodyPatch.TheVariants.{Values, Slots, Cells}
use Rattle.aw_schema.specs.RecordLength.{fields_len, definition_len, record_len}
use Rattle.aw_codec.specs.declared.record.Decoded.{Decoded}
use Rattle.aw_codec.specs.declared.record.Decoded.TheVariants.{Definitions, Commit}
use Rattle.aw_codec.specs.Records.{spelled, FitsPayload}
use Rattle.aw_codec.specs.Spellings as spelling

pub shorts_length : (ns : List ℕ) → length (spelling.shorts ns) ≡ 2 * length ns
shorts_length [] = refl
shorts_length (n ∷ ns) = omega (arith, shorts_length ns)

pub keyed_cell_length : (change : List ℕ × Cell) → length (spelling.keyed_cell change) ≡ 2 * length change.0 + length (spelling.cell change.1)
keyed_cell_length change = omega (arith, length-append (spelling.shorts change.0) (spelling.cell change.1), shorts_length change.0)

kind_length : (kind : DefKind) → length (spelling.kind kind) ≡ 1 + fields_len kind
kind_length Dimension = refl
kind_length (Relation target base) = refl
kind_length (Valueset dimension) = refl
kind_length (Variable type dimensions) = omega (arith, shorts_length dimensions)
kind_length (Formula text) = omega arith
kind_length (Program text) = omega arith
kind_length (Aggmap text) = omega arith

definition_length : (def : Def) → length (spelling.definition def) ≡ definition_len def
definition_length def = omega (arith, length-append def.name (spelling.kind def.kind), kind_length def.kind)

definitions_length : (defs : List Def) → length (flat_map spelling.definition defs) ≡ sum_by definition_len defs
definitions_length defs = length-flat_map spelling.definition defs ∙ (λ i. sum_by (λ (def : Def). definition_length def i) defs)

-- the record of definitions is as long as a catalogue counts
pub record_length : (defs : List Def) → length (spelled (Definitions defs)) ≡ record_len defs
record_length defs = omega (arith, definitions_length defs)

pub values_length : (values : dimension.DimensionState) → length (spelling.patch (Values values)) ≡ 9 + sum_by (λ entry. length (spelling.value entry)) values.entries
values_length values = omega (arith, length-flat_map spelling.value values.entries)

pub slots_length : (slots : List ℕ) → length (spelling.patch (Slots slots)) ≡ 5 + 2 * length slots
slots_length slots = omega (arith, shorts_length slots)

pub cells_length : (cells : List (List ℕ × Cell)) → length (spelling.patch (Cells cells)) ≡ 6 + sum_by (λ change. length (spelling.keyed_cell change)) cells
cells_length cells = omega (arith, length-flat_map spelling.keyed_cell cells)

pub commit_length : (changes : List Change) → length (spelled (Commit changes)) ≡ 4 + sum_by (λ change. length (spelling.change change)) changes
commit_length changes = omega (arith, length-flat_map spelling.change changes)

-- ---- what has few bytes has few parts

parts_few : {X : Type 0} (f : X → List ℕ) → ((x : X) → 1 ≤ length (f x)) → (xs : List X) → length xs ≤ length (flat_map f xs)
parts_few f some [] = omega arith
parts_few f some (x ∷ xs) = omega (arith, some x, parts_few f some xs, length-append (f x) (flat_map f xs))

pub cell_some : (cell : Cell) → 1 ≤ length (spelling.cell cell)
cell_some Na = omega arith
cell_some (Num units) = omega arith
cell_some (Int value) = omega arith
cell_some (Text text) = omega arith
cell_some (Bool truth) = omega arith
cell_some (Slot slot) = omega arith

pub values_few : (values : dimension.DimensionState) → length values.entries ≤ length (spelling.patch (Values values))
values_few values = omega (arith, parts_few spelling.value (λ entry. omega arith) values.entries)

pub slots_few : (slots : List ℕ) → length slots ≤ length (spelling.patch (Slots slots))
slots_few slots = omega (arith, slots_length slots)

pub cells_few : (cells : List (List ℕ × Cell)) → length cells ≤ length (spelling.patch (Cells cells))
cells_few cells = omega (arith, parts_few spelling.keyed_cell (λ change. omega (arith, keyed_cell_length change, cell_some change.1)) cells)

-- a change has no more bytes than all of them
pub change_few : (changes : List Change) (k : ℕ) (d : Change) → k < length changes → length (spelling.change (get_or changes k d)) ≤ length (flat_map spelling.change changes)
change_few changes k d within = omega (arith, length-flat_map spelling.change changes, get_or-le-sum_by (λ (c : Change). length (spelling.change c)) changes k d within)

-- ---- a record that isn't too large fits a payload

pub payload_fits : (bytes : List ℕ) (what : Decoded) → bytes ≡ spelled what → length (spelled what) ≤ 67108864 → FitsPayload bytes
payload_fits bytes (Definitions defs) is most = subst FitsPayload (sym is) (omega arith, most)
payload_fits bytes (Commit changes) is most = subst FitsPayload (sym is) (omega arith, most)
