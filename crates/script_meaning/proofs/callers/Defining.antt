-- The definitions that a script has made can be written and replayed, and stay so when one joins them.
use Rattle.std.specs.Prelude.{◌≡◌, ◌≤◌, ◌<◌, ◌*◌, ◌&&◌, ◌++◌, ℕ, Bool, true, false, not, List, [], ◌∷◌, All, cond, length, map, nat_le, nat_lt, Option, None, Some, Ok, Err, if◌then◌else◌, position, refl, unwrap_or}
use Rattle.std.specs.List.{list_all, list_any, position_or_len, sum_by}
use Rattle.std.specs.Option.{is_none, option_map, option_or}
use Rattle.std.proofs.Common.{◌∙◌, ap, sym, subst, arith, length-append, append_assoc, append-nil}
use Rattle.std.proofs.lemmas.Bool.{and_parts, and_from, leb-true, leb-false, ltb-true, ltb-false, true≢false}
use Rattle.std.proofs.lemmas.Option.{cond_some, none-some}
use Rattle.std.proofs.lemmas.List.{length-map}
use Rattle.std.proofs.lemmas.List.Elements.{All-nil, All-cons, All-head, All-tail, All-append}
use Rattle.std.proofs.lemmas.List.Folds.{list_all-append}
use Rattle.std.proofs.lemmas.List.Sums.{sum_by-cons}
use Rattle.aw_lists.specs.Coord.{AreSlots}
use Rattle.aw_cell.specs.Names.{is_name, has_name_form, begins_with, is_letter, is_name_byte, same_word, reserved_words}
use Rattle.aw_schema.specs.declared.definition.Def.{Def}
use Rattle.aw_schema.specs.declared.definition.DefKind.{DefKind}
use Rattle.aw_schema.specs.declared.definition.DefKind.TheVariants as kept
use Rattle.aw_schema.specs.declared.fault.SchemaFault.TheVariants.{TooMany}
use Rattle.aw_schema.specs.Checking.{repeated_name, too_many, wrong_objects, refusal}
use Rattle.aw_schema.specs.Definitions.{has_name, has_form}
use Rattle.aw_schema.specs.RecordLength.{fields_len, definition_len, record_len}
use Rattle.aw_codec.specs.declared.record.Decoded.TheVariants.{Definitions}
use Rattle.aw_codec.specs.Records.{IsDefinition, AreInRange}
use Rattle.aw_codec.proofs.callers.Lengths.{record_length}
use Rattle.aw_store.specs.StoredRecords.{IsStored, is_replayed, are_replayed, are_accepted_after}
use Rattle.dml_tree.specs.declared.definition.Definition.{Definition as Tree}
use Rattle.dml_lines.specs.Lines.{DefinitionRead, definition_in}
use Rattle.ses_report.specs.declared.refusal.Refusal.{Refusal}
use Rattle.ses_report.specs.Refusals as report
use Rattle.ses_step.specs.declared.definition.Definition.{Definition}
use Rattle.ses_step.specs.declared.definition.NamedKind.{NamedKind}
use Rattle.ses_step.specs.declared.definition.NamedKind.TheVariants.{Dimension, Relation, Valueset, Variable}
use Rattle.ses_step.specs.Kept.{kept_kind}
use Rattle.script_meaning.specs.Defining.{IsFormed, number_of, kind_of, def_of, names_in, told, define_refusal, accepted_by}
use Rattle.script_meaning.specs.DefinitionLines.{is_block, form_refusal, define_kind, define_read, define_unless, define}
use Rattle.script_meaning.specs.Fit.{AreDefinable}
use Rattle.script_meaning.proofs.callers.LineDefinitions.{spellable-formed, read-formed}
use Rattle.script_meaning.proofs.Recording.{definitions-few}

-- ---- how long their record is

-- a name has at most 64 bytes
name-len : (name : List ℕ) → is_name name ≡ true → length name ≤ 64
name-len name named =
    let form = (and_parts (has_name_form name) (not (list_any (same_word name) reserved_words)) named).0 in
    let front = (and_parts (begins_with is_letter name && nat_le (length name) 64) (list_all is_name_byte name) form).0 in
    leb-true (length name) 64 (and_parts (begins_with is_letter name) (nat_le (length name) 64) front).1

fields_len-below : (kind : DefKind) → AreInRange kind → is_replayed kind ≡ true → fields_len kind ≤ 14
fields_len-below kept.Dimension range can = omega arith
fields_len-below (kept.Relation target base) range can = omega arith
fields_len-below (kept.Valueset dimension) range can = omega arith
fields_len-below (kept.Variable type dimensions) range can = omega (arith, range.1)
fields_len-below (kept.Formula text) range can = absurd (true≢false (sym can))
fields_len-below (kept.Program text) range can = absurd (true≢false (sym can))
fields_len-below (kept.Aggmap text) range can = absurd (true≢false (sym can))

-- one that can be replayed has at most 80 bytes
definition_len-below : (def : Def) → IsDefinition def → is_replayed def.kind ≡ true → definition_len def ≤ 80
definition_len-below def it can =
    omega (arith, name-len def.name (and_parts (is_name def.name) (has_form def.kind) it.0).0, fields_len-below def.kind it.1 can)

few-bytes : (definitions : List Def) → All IsDefinition definitions → are_replayed definitions ≡ true → sum_by definition_len definitions ≤ 80 * length definitions
few-bytes [] all can = omega arith
few-bytes (def ∷ definitions) all can =
    let parts = and_parts (is_replayed def.kind) (are_replayed definitions) can in
    omega (arith, sum_by-cons definition_len def definitions, definition_len-below def (All-head IsDefinition def definitions all) parts.0, few-bytes definitions (All-tail IsDefinition def definitions all) parts.1)

-- up to 4,096 of them have a record
pub stored-few : (definitions : List Def) → length definitions ≤ 4096 → All IsDefinition definitions → are_replayed definitions ≡ true → IsStored (Definitions definitions)
stored-few definitions few all can = record {
  spelling = (omega (arith, few), all);
  short = omega (arith, record_length definitions, few-bytes definitions all can, few);
}

pub record_len-below : (definitions : List Def) → AreDefinable definitions → record_len definitions ≤ 67108864
record_len-below definitions it = omega (arith, record_length definitions, it.stored.short)

-- ---- what an accepted definition is

pub number-below : (definitions : List Def) (name : List ℕ) → length definitions ≤ 4096 → number_of definitions name < 65536
number-below definitions name few = by_place (position (has_name name) definitions) refl
  where
    first : ℕ
    first = position_or_len (has_name name) definitions

    by_place : (found : Option ℕ) → position (has_name name) definitions ≡ found → unwrap_or found 65535 < 65536
    by_place None is = omega arith
    by_place (Some at) is =
        let there = cond_some (nat_lt first (length definitions)) first at is in
        omega (arith, ltb-true first (length definitions) there.0, there.1, few)

slots-below : (definitions : List Def) (names : List (List ℕ)) → length definitions ≤ 4096 → AreSlots (map (number_of definitions) names)
slots-below definitions [] few = All-nil _
slots-below definitions (name ∷ names) few =
    All-cons (λ slot. slot < 65536) (number_of definitions name) (map (number_of definitions) names) (number-below definitions name few) (slots-below definitions names few)

range-of : (definitions : List Def) (kind : NamedKind) → length definitions ≤ 4096 → length (names_in kind) ≤ 6 → AreInRange (kind_of definitions kind)
range-of definitions Dimension few narrow = tt
range-of definitions (Relation target base) few narrow = (number-below definitions target few, number-below definitions base few)
range-of definitions (Valueset dimension) few narrow = number-below definitions dimension few
range-of definitions (Variable type dimensions) few narrow =
    (slots-below definitions dimensions few, omega (arith, length-map dimensions (number_of definitions), narrow))

replayed-kind : (definitions : List Def) (kind : NamedKind) → is_replayed (kind_of definitions kind) ≡ true
replayed-kind definitions Dimension = refl
replayed-kind definitions (Relation target base) = refl
replayed-kind definitions (Valueset dimension) = refl
replayed-kind definitions (Variable type dimensions) = refl

-- ---- when a definition isn't refused

or-none : {A : Type 0} (x y : Option A) → option_or x y ≡ None → (x ≡ None) × (y ≡ None)
or-none None y none = (refl, none)
or-none (Some a) y none = absurd (none-some a (sym none))

map-none : {A B : Type 0} (f : A → B) (x : Option A) → option_map f x ≡ None → x ≡ None
map-none f None none = refl
map-none f (Some a) none = absurd (none-some (f a) (sym none))

cond-none : {A : Type 0} (test : Bool) (a : A) (y : Option A) → cond test (Some a) y ≡ None → (test ≡ false) × (y ≡ None)
cond-none false a y none = (refl, none)
cond-none true a y none = absurd (none-some a (sym none))

-- no cause applies
pub record IsAccepted (definitions : List Def) (d : Definition) : Type 0 where
  pub narrow : length (names_in d.kind) ≤ 6
  pub accepted : refusal definitions (def_of definitions d) ≡ None
  pub room : length definitions < 4096

pub accepted-so : (definitions : List Def) (d : Definition) → define_refusal definitions d ≡ None → IsAccepted definitions d
accepted-so definitions d none =
    let def = def_of definitions d in
    let rest : Option Refusal = option_map (told definitions d) (refusal definitions def) in
    let later = or-none (option_map (told definitions d) (repeated_name definitions d.name)) (cond (nat_lt 6 (length (names_in d.kind))) (Some report.too_many) rest) none in
    let parts = cond-none (nat_lt 6 (length (names_in d.kind))) report.too_many rest later.1 in
    let accepted = map-none (told definitions d) (refusal definitions def) parts.1 in
    let objects = or-none (repeated_name definitions d.name) (option_or (too_many definitions) (wrong_objects definitions def.kind)) accepted in
    record {
      narrow = ltb-false 6 (length (names_in d.kind)) parts.0;
      accepted = accepted;
      room = room-left (or-none (too_many definitions) (wrong_objects definitions def.kind) objects.1).0;
    }
  where
    room-left : too_many definitions ≡ None → length definitions < 4096
    room-left none = by_test (nat_le 4096 (length definitions)) refl none
      where
        by_test : (test : Bool) → nat_le 4096 (length definitions) ≡ test → (if test then Some TooMany else None) ≡ None → length definitions < 4096
        by_test true is none = absurd (none-some TooMany (sym none))
        by_test false is none = leb-false 4096 (length definitions) is

-- ---- one more

accepted-push : (before definitions : List Def) (def : Def) → are_accepted_after before definitions ≡ true → is_none (refusal (before ++ definitions) def) ≡ true → are_accepted_after before (definitions ++ def ∷ []) ≡ true
accepted-push before [] def are can =
    and_from (is_none (refusal before def)) true (ap (λ those. is_none (refusal those def)) (sym (append-nil before)) ∙ can) refl
accepted-push before (first ∷ definitions) def are can =
    let parts = and_parts (is_none (refusal before first)) (are_accepted_after (before ++ first ∷ []) definitions) are in
    and_from (is_none (refusal before first)) (are_accepted_after (before ++ first ∷ []) (definitions ++ def ∷ [])) parts.0
    (accepted-push (before ++ first ∷ []) definitions def parts.1 (ap (λ those. is_none (refusal those def)) (append_assoc before (first ∷ []) definitions) ∙ can))

pub definable-none : AreDefinable []
definable-none = record { stored = stored-few [] (omega arith) (All-nil IsDefinition) refl; replayed = refl; accepted = refl }

-- what a line defines, and a catalogue accepts, joins the others
pub definable-push : (definitions : List Def) (d : Definition) → AreDefinable definitions → IsFormed d → define_refusal definitions d ≡ None → AreDefinable (definitions ++ def_of definitions d ∷ [])
definable-push definitions d it formed none =
    let def = def_of definitions d in
    let so = accepted-so definitions d none in
    let few = definitions-few definitions it in
    let one : IsDefinition def = (spellable-formed definitions d formed, range-of definitions d.kind few so.narrow) in
    let replayed = list_all-append (λ (those : Def). is_replayed those.kind) definitions (def ∷ []) ∙ and_from (are_replayed definitions) (is_replayed def.kind && true) it.replayed (and_from (is_replayed def.kind) true (replayed-kind definitions d.kind) refl) in
    record {
      stored = stored-few (definitions ++ def ∷ []) (omega (arith, so.room, length-append definitions (def ∷ []))) (All-append IsDefinition definitions (def ∷ []) it.stored.spelling.1 (All-cons IsDefinition def [] one (All-nil IsDefinition))) replayed;
      replayed = replayed;
      accepted = accepted-push [] definitions def it.accepted (ap is_none so.accepted);
    }

-- what lines leave of definitions that can be written can be written
pub defined-definable : (d : List Def) (lines : List (List ℕ)) (after : List Def) → define d lines ≡ Ok after → AreDefinable d → AreDefinable after
defined-definable d lines after is it = by_form (form_refusal lines) is
  where
    by_refusal : (definition : Definition) → IsFormed definition → (found : Option Refusal) → define_refusal d definition ≡ found → accepted_by d definition found ≡ Ok after → AreDefinable after
    by_refusal definition formed None none same = let those : d ++ def_of d definition ∷ [] ≡ after = cc in subst AreDefinable those (definable-push d definition it formed none)
    by_refusal definition formed (Some refusal) some same = cc

    by_kind : (tree : Tree) → definition_in lines ≡ Ok tree → (kind : Option NamedKind) → kept_kind tree.what ≡ kind → define_kind d tree kind ≡ Ok after → AreDefinable after
    by_kind tree read None other same = cc
    by_kind tree read (Some kind) kept same =
        let definition : Definition = record { name = tree.name; kind = kind } in
        by_refusal definition (read-formed lines tree read kind kept) (define_refusal d definition) refl same

    by_read : (read : DefinitionRead) → definition_in lines ≡ read → define_read d (is_block lines) read ≡ Ok after → AreDefinable after
    by_read (Err fault) read same = cc
    by_read (Ok tree) read same = by_kind tree read (kept_kind tree.what) refl same

    by_form : (found : Option Refusal) → define_unless found d lines ≡ Ok after → AreDefinable after
    by_form (Some refusal) same = cc
    by_form None same = by_read (definition_in lines) refl same
