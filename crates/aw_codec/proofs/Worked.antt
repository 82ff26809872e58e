-- Worked rows: what the format says of bytes, by computation.
use Rattle.std.specs.Prelude.{ℕ, ◌≡◌, List, [], ◌∷◌, Result, Ok, Err, pos, negsuc, true}
use Rattle.std.proofs.Common.{refl}
use Rattle.aw_cell.specs.declared.cell.Cell.TheVariants.{Na, Num, Int, Text, Bool, Slot}
use Rattle.aw_cell.specs.declared.cell.Kind.TheVariants.{Num as NumberKind, Int as IntegerKind}
use Rattle.aw_schema.specs.declared.definition.DefKind.TheVariants.{Dimension, Relation, Valueset, Variable, Formula, Program, Aggmap}
use Rattle.aw_body.specs.declared.patch.BodyPatch.TheVariants.{Values, Slots, Cells}
use Rattle.aw_codec.specs.declared.record.Decoded.{Decoded}
use Rattle.aw_codec.specs.declared.record.Decoded.TheVariants.{Definitions, Commit}
use Rattle.aw_codec.specs.Formats.{number, bytes_of, many}
use Rattle.aw_codec.specs.Parsing.{whole}
use Rattle.aw_codec.specs.RecordFormat.{shorts, long_text, relation, valueset, variable, texted, definition, units, integer, text, truth, slot, cell, key, keyed_cell, cells, value, values, other_slot, slots, patch, change, all_definitions, all_changes, record_format}

read : List ℕ → Result Decoded ℕ
read bytes = whole record_format bytes

-- an INTEGER variable v without dimensions, and 7 in it: a record that earlier programs wrote
v_defined : read (68 ∷ 1 ∷ 0 ∷ 1 ∷ 1 ∷ 118 ∷ 3 ∷ 2 ∷ 0 ∷ []) ≡ Ok (Definitions (record { name = 118 ∷ []; kind = Variable IntegerKind [] } ∷ []))
unfolding read record_format all_definitions definition variable shorts many number bytes_of
v_defined = refl

v_is_7 : read (67 ∷ 1 ∷ 0 ∷ 1 ∷ 0 ∷ 0 ∷ 77 ∷ 0 ∷ 0 ∷ 0 ∷ 0 ∷ 1 ∷ 2 ∷ 0 ∷ 0 ∷ 0 ∷ 7 ∷ []) ≡ Ok (Commit (record { object = 0; patch = Cells (([], Int (pos 7)) ∷ []) } ∷ []))
unfolding read record_format all_changes change patch cells keyed_cell key cell integer many number
v_is_7 = refl

-- a second key that falls, and the twin in order
keys_fall : read (67 ∷ 1 ∷ 0 ∷ 1 ∷ 0 ∷ 0 ∷ 77 ∷ 1 ∷ 0 ∷ 0 ∷ 0 ∷ 2 ∷ 0 ∷ 3 ∷ 0 ∷ 0 ∷ 2 ∷ 0 ∷ []) ≡ Err 15
unfolding read record_format all_changes change patch cells keyed_cell key cell many number
keys_fall = refl

keys_rise : read (67 ∷ 1 ∷ 0 ∷ 1 ∷ 0 ∷ 0 ∷ 77 ∷ 1 ∷ 0 ∷ 0 ∷ 0 ∷ 2 ∷ 0 ∷ 2 ∷ 0 ∷ 0 ∷ 3 ∷ 0 ∷ []) ≡ Ok (Commit (record { object = 0; patch = Cells ((2 ∷ [], Na) ∷ (3 ∷ [], Na) ∷ []) } ∷ []))
unfolding read record_format all_changes change patch cells keyed_cell key cell many number
keys_rise = refl

-- a slot twice, in a patch of slots and in one of values
slot_twice : read (67 ∷ 1 ∷ 0 ∷ 1 ∷ 0 ∷ 0 ∷ 83 ∷ 0 ∷ 0 ∷ 0 ∷ 2 ∷ 0 ∷ 5 ∷ 0 ∷ 5 ∷ []) ≡ Err 13
unfolding read record_format all_changes change patch slots other_slot many number
slot_twice = refl

name_twice : read (67 ∷ 1 ∷ 0 ∷ 1 ∷ 0 ∷ 0 ∷ 76 ∷ 0 ∷ 0 ∷ 0 ∷ 2 ∷ 0 ∷ 0 ∷ 0 ∷ 2 ∷ 0 ∷ 0 ∷ 1 ∷ 65 ∷ 0 ∷ 1 ∷ 1 ∷ 65 ∷ []) ≡ Err 22
unfolding read record_format all_changes change patch values value many number bytes_of
name_twice = refl

-- a definition of each kind
all_kinds : read (68 ∷ 1 ∷ 0 ∷ 8 ∷ 1 ∷ 100 ∷ 0 ∷ 1 ∷ 101 ∷ 0 ∷ 1 ∷ 114 ∷ 1 ∷ 0 ∷ 1 ∷ 0 ∷ 0 ∷ 1 ∷ 115 ∷ 2 ∷ 0 ∷ 0 ∷ 1 ∷ 118 ∷ 3 ∷ 1 ∷ 2 ∷ 0 ∷ 0 ∷ 0 ∷ 1 ∷ 1 ∷ 102 ∷ 4 ∷ 0 ∷ 0 ∷ 0 ∷ 3 ∷ 118 ∷ 42 ∷ 50 ∷ 1 ∷ 112 ∷ 5 ∷ 0 ∷ 0 ∷ 0 ∷ 6 ∷ 82 ∷ 69 ∷ 84 ∷ 85 ∷ 82 ∷ 78 ∷ 1 ∷ 109 ∷ 6 ∷ 0 ∷ 0 ∷ 0 ∷ 23 ∷ 82 ∷ 69 ∷ 76 ∷ 65 ∷ 84 ∷ 73 ∷ 79 ∷ 78 ∷ 32 ∷ 114 ∷ 32 ∷ 79 ∷ 80 ∷ 69 ∷ 82 ∷ 65 ∷ 84 ∷ 79 ∷ 82 ∷ 32 ∷ 83 ∷ 85 ∷ 77 ∷ []) ≡ Ok (Definitions (record { name = (100 ∷ []); kind = Dimension } ∷ record { name = (101 ∷ []); kind = Dimension } ∷ record { name = (114 ∷ []); kind = Relation 1 0 } ∷ record { name = (115 ∷ []); kind = Valueset 0 } ∷ record { name = (118 ∷ []); kind = Variable NumberKind (0 ∷ 1 ∷ []) } ∷ record { name = (102 ∷ []); kind = Formula (118 ∷ 42 ∷ 50 ∷ []) } ∷ record { name = (112 ∷ []); kind = Program (82 ∷ 69 ∷ 84 ∷ 85 ∷ 82 ∷ 78 ∷ []) } ∷ record { name = (109 ∷ []); kind = Aggmap (82 ∷ 69 ∷ 76 ∷ 65 ∷ 84 ∷ 73 ∷ 79 ∷ 78 ∷ 32 ∷ 114 ∷ 32 ∷ 79 ∷ 80 ∷ 69 ∷ 82 ∷ 65 ∷ 84 ∷ 79 ∷ 82 ∷ 32 ∷ 83 ∷ 85 ∷ 77 ∷ []) } ∷ []))
unfolding read record_format all_definitions definition variable relation valueset texted long_text shorts many number bytes_of
all_kinds = refl

-- the values North (slot 2) and East (slot 0); slots; cells of a relation; and NUMBER cells
values_given : read (67 ∷ 1 ∷ 0 ∷ 1 ∷ 0 ∷ 0 ∷ 76 ∷ 0 ∷ 0 ∷ 0 ∷ 3 ∷ 0 ∷ 0 ∷ 0 ∷ 2 ∷ 0 ∷ 2 ∷ 5 ∷ 78 ∷ 111 ∷ 114 ∷ 116 ∷ 104 ∷ 0 ∷ 0 ∷ 4 ∷ 69 ∷ 97 ∷ 115 ∷ 116 ∷ []) ≡ Ok (Commit (record { object = 0; patch = Values (record { entries = (2, (78 ∷ 111 ∷ 114 ∷ 116 ∷ 104 ∷ [])) ∷ (0, (69 ∷ 97 ∷ 115 ∷ 116 ∷ [])) ∷ []; next = 3 }) } ∷ []))
unfolding read record_format all_changes change patch values value many number bytes_of
values_given = refl

slots_given : read (67 ∷ 1 ∷ 0 ∷ 1 ∷ 0 ∷ 3 ∷ 83 ∷ 0 ∷ 0 ∷ 0 ∷ 2 ∷ 0 ∷ 2 ∷ 0 ∷ 0 ∷ []) ≡ Ok (Commit (record { object = 3; patch = Slots (2 ∷ 0 ∷ []) } ∷ []))
unfolding read record_format all_changes change patch slots other_slot many number
slots_given = refl

relation_set : read (67 ∷ 1 ∷ 0 ∷ 1 ∷ 0 ∷ 2 ∷ 77 ∷ 1 ∷ 0 ∷ 0 ∷ 0 ∷ 2 ∷ 0 ∷ 0 ∷ 5 ∷ 0 ∷ 1 ∷ 0 ∷ 2 ∷ 0 ∷ []) ≡ Ok (Commit (record { object = 2; patch = Cells ((0 ∷ [], Slot 1) ∷ (2 ∷ [], Na) ∷ []) } ∷ []))
unfolding read record_format all_changes change patch cells keyed_cell key cell slot many number
relation_set = refl

numbers_set : read (67 ∷ 1 ∷ 0 ∷ 1 ∷ 0 ∷ 4 ∷ 77 ∷ 2 ∷ 0 ∷ 0 ∷ 0 ∷ 3 ∷ 0 ∷ 0 ∷ 0 ∷ 1 ∷ 1 ∷ 0 ∷ 0 ∷ 0 ∷ 0 ∷ 0 ∷ 0 ∷ 58 ∷ 152 ∷ 0 ∷ 2 ∷ 0 ∷ 0 ∷ 0 ∷ 0 ∷ 2 ∷ 0 ∷ 1 ∷ 1 ∷ 255 ∷ 255 ∷ 255 ∷ 255 ∷ 255 ∷ 255 ∷ 255 ∷ 255 ∷ []) ≡ Ok (Commit (record { object = 4; patch = Cells ((0 ∷ 1 ∷ [], Num (pos 15000)) ∷ (2 ∷ 0 ∷ [], Na) ∷ (2 ∷ 1 ∷ [], Num (negsuc 0)) ∷ []) } ∷ []))
unfolding read record_format all_changes change patch cells keyed_cell key cell units many number
numbers_set = refl

-- cells of TEXT and of BOOLEAN
text_set : read (67 ∷ 1 ∷ 0 ∷ 1 ∷ 0 ∷ 5 ∷ 77 ∷ 0 ∷ 0 ∷ 0 ∷ 0 ∷ 1 ∷ 3 ∷ 2 ∷ 72 ∷ 105 ∷ []) ≡ Ok (Commit (record { object = 5; patch = Cells (([], Text (72 ∷ 105 ∷ [])) ∷ []) } ∷ []))
unfolding read record_format all_changes change patch cells keyed_cell key cell text many number bytes_of
text_set = refl

truth_set : read (67 ∷ 1 ∷ 0 ∷ 1 ∷ 0 ∷ 5 ∷ 77 ∷ 0 ∷ 0 ∷ 0 ∷ 0 ∷ 1 ∷ 4 ∷ 1 ∷ []) ≡ Ok (Commit (record { object = 5; patch = Cells (([], Bool true) ∷ []) } ∷ []))
unfolding read record_format all_changes change patch cells keyed_cell key cell truth many number
truth_set = refl

-- faults: no change, an object again, a second key of no slots, a key again
no_change : read (67 ∷ 1 ∷ 0 ∷ 0 ∷ []) ≡ Err 2
unfolding read record_format all_changes number
no_change = refl

object_again : read (67 ∷ 1 ∷ 0 ∷ 2 ∷ 0 ∷ 0 ∷ 77 ∷ 0 ∷ 0 ∷ 0 ∷ 0 ∷ 1 ∷ 0 ∷ 0 ∷ 0 ∷ 77 ∷ 0 ∷ 0 ∷ 0 ∷ 0 ∷ 1 ∷ 0 ∷ []) ≡ Err 13
unfolding read record_format all_changes change patch cells keyed_cell key cell many number
object_again = refl

no_slots_again : read (67 ∷ 1 ∷ 0 ∷ 1 ∷ 0 ∷ 0 ∷ 77 ∷ 0 ∷ 0 ∷ 0 ∷ 0 ∷ 2 ∷ 0 ∷ 0 ∷ []) ≡ Err 13
unfolding read record_format all_changes change patch cells keyed_cell key cell many number
no_slots_again = refl

key_again : read (67 ∷ 1 ∷ 0 ∷ 1 ∷ 0 ∷ 0 ∷ 77 ∷ 2 ∷ 0 ∷ 0 ∷ 0 ∷ 2 ∷ 0 ∷ 3 ∷ 0 ∷ 1 ∷ 0 ∷ 0 ∷ 3 ∷ 0 ∷ 1 ∷ 0 ∷ []) ≡ Err 19
unfolding read record_format all_changes change patch cells keyed_cell key cell many number
key_again = refl

-- a NUMBER of nineteen digits, an INTEGER that is -2147483648, a slot that is not below the next one
number_too_great : read (67 ∷ 1 ∷ 0 ∷ 1 ∷ 0 ∷ 0 ∷ 77 ∷ 0 ∷ 0 ∷ 0 ∷ 0 ∷ 1 ∷ 1 ∷ 13 ∷ 224 ∷ 182 ∷ 179 ∷ 167 ∷ 100 ∷ 0 ∷ 0 ∷ []) ≡ Err 13
unfolding read record_format all_changes change patch cells keyed_cell key cell units many number
number_too_great = refl

no_integer : read (67 ∷ 1 ∷ 0 ∷ 1 ∷ 0 ∷ 0 ∷ 77 ∷ 0 ∷ 0 ∷ 0 ∷ 0 ∷ 1 ∷ 2 ∷ 128 ∷ 0 ∷ 0 ∷ 0 ∷ []) ≡ Err 13
unfolding read record_format all_changes change patch cells keyed_cell key cell integer many number
no_integer = refl

slot_not_given : read (67 ∷ 1 ∷ 0 ∷ 1 ∷ 0 ∷ 0 ∷ 76 ∷ 0 ∷ 0 ∷ 0 ∷ 1 ∷ 0 ∷ 0 ∷ 0 ∷ 1 ∷ 0 ∷ 1 ∷ 1 ∷ 65 ∷ []) ≡ Err 15
unfolding read record_format all_changes change patch values value many number bytes_of
slot_not_given = refl
