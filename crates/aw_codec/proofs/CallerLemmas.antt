-- What those who keep records cite.
use Rattle.std.specs.Prelude.{ℕ, ◌≡◌, ◌==◌, ◌&&◌, true, not, List, [], ◌∷◌, length, IsTrue, Ok}
use Rattle.std.specs.List.{list_all}
use Rattle.std.proofs.Common.{refl, sym, subst}
use Rattle.std.proofs.lemmas.Bool.{and_parts, and_from, eqb-true}
use Rattle.aw_cell.specs.declared.cell.Cell.{Cell}
use Rattle.aw_cell.specs.declared.cell.Kind.{Kind}
use Rattle.aw_cell.specs.declared.cell.Kind.TheVariants.{Slot as SlotKind}
use Rattle.aw_page.specs.Fitting.{is_of_kind}
use Rattle.aw_schema.specs.declared.definition.DefKind.{DefKind}
use Rattle.aw_schema.specs.declared.definition.DefKind.TheVariants.{Dimension, Relation, Valueset, Variable, Formula, Program, Aggmap}
use Rattle.aw_body.specs.declared.body.Body.{Body}
use Rattle.aw_body.specs.declared.patch.BodyPatch.{BodyPatch}
use Rattle.aw_body.specs.declared.patch.BodyPatch.TheVariants.{Values, Slots, Cells}
use Rattle.aw_body.specs.Fitting.{is_recorded, is_recorded_change, are_changes, rise, fits}
use Rattle.aw_codec.specs.declared.record.Decoded.{Decoded}
use Rattle.aw_codec.specs.Laws.{SpellingOrFault}
use Rattle.aw_codec.specs.Parsing.{whole}
use Rattle.aw_codec.specs.RecordFormat.{record_format}
use Rattle.aw_codec.specs.Records.{IsRecord, spelled, are_recordable, is_recordable}
use Rattle.aw_codec.proofs.DecodeLaws as decode
use Rattle.aw_codec.proofs.SpellingLaws as laws

-- the spelling of a record reads as it
pub whole_of_record : (bytes : List ℕ) (r : Decoded) → IsRecord r → bytes ≡ spelled r → whole record_format bytes ≡ Ok r
whole_of_record bytes r fits same = decode.whole_of_record bytes r fits same

-- bytes are the spelling of a record, or have one fault
pub spelling_or_fault : SpellingOrFault
spelling_or_fault = laws.spelling_or_fault

-- ---- a patch that fits an object can stand in a record

abbrev KeyedCell : Type 0
KeyedCell = List ℕ × Cell

same_size : (slots : ℕ) (kind : Kind) (size : ℕ) (changes : List KeyedCell) → size ≡ slots → IsTrue (list_all (is_recorded_change slots kind) changes)
    → IsTrue (list_all (λ change. (length change.0 == size) && is_recorded change.1) changes)
same_size slots kind size [] same all = refl
same_size slots kind size (c ∷ changes) same all =
    let parts = and_parts (is_recorded_change slots kind c) (list_all (is_recorded_change slots kind) changes) all in
    let first = and_parts ((length c.0 == slots) && is_of_kind kind c.1) (is_recorded c.1) parts.0 in
    let form = and_parts (length c.0 == slots) (is_of_kind kind c.1) first.0 in
    let sized = subst (λ (n : ℕ). (length c.0 == n) ≡ true) (sym same) form.0 in
    and_from ((length c.0 == size) && is_recorded c.1) (list_all (λ change. (length change.0 == size) && is_recorded change.1) changes)
    (and_from (length c.0 == size) (is_recorded c.1) sized first.1) (same_size slots kind size changes same parts.1)

changes_recordable : (slots : ℕ) (kind : Kind) (changes : List KeyedCell) → IsTrue (are_changes slots kind changes) → IsTrue (are_recordable changes)
changes_recordable slots kind [] fit = absurd cc
changes_recordable slots kind (c ∷ changes) fit =
    let all = c ∷ changes in
    let parts = and_parts (not (length all == 0) && list_all (is_recorded_change slots kind) all) (rise all) fit in
    let recorded = (and_parts (not (length all == 0)) (list_all (is_recorded_change slots kind) all) parts.0).1 in
    let first = (and_parts (is_recorded_change slots kind c) (list_all (is_recorded_change slots kind) changes) recorded).0 in
    let form = (and_parts ((length c.0 == slots) && is_of_kind kind c.1) (is_recorded c.1) first).0 in
    let size = eqb-true (length c.0) slots (and_parts (length c.0 == slots) (is_of_kind kind c.1) form).0 in
    and_from (list_all (λ change. (length change.0 == length c.0) && is_recorded change.1) all) (rise all) (same_size slots kind (length c.0) all size recorded) parts.1

pub recordable_fits : (patch : BodyPatch) (kind : DefKind) (latest : Body) → IsTrue (fits patch kind latest) → IsTrue (is_recordable patch)
recordable_fits (Values values) kind latest fit = refl
recordable_fits (Slots slots) (Valueset dimension) latest fit = fit
recordable_fits (Slots slots) Dimension latest fit = absurd cc
recordable_fits (Slots slots) (Relation target base) latest fit = absurd cc
recordable_fits (Slots slots) (Variable kind dimensions) latest fit = absurd cc
recordable_fits (Slots slots) (Formula text) latest fit = absurd cc
recordable_fits (Slots slots) (Program text) latest fit = absurd cc
recordable_fits (Slots slots) (Aggmap text) latest fit = absurd cc
recordable_fits (Cells changes) (Relation target base) latest fit = changes_recordable 1 SlotKind changes fit
recordable_fits (Cells changes) (Variable kind dimensions) latest fit = changes_recordable (length dimensions) kind changes fit
recordable_fits (Cells changes) Dimension latest fit = absurd cc
recordable_fits (Cells changes) (Valueset dimension) latest fit = absurd cc
recordable_fits (Cells changes) (Formula text) latest fit = absurd cc
recordable_fits (Cells changes) (Program text) latest fit = absurd cc
recordable_fits (Cells changes) (Aggmap text) latest fit = absurd cc
