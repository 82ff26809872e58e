-- The dump of records that a store opens with tells what they stand for.
use Rattle.std.specs.Prelude.{◌≡◌, ◌<◌, ◌≤◌, ◌+◌, ◌&&◌, ℕ, suc, ℤ, pos, negsuc, Bool as Truth, true, false, List, [], ◌∷◌, length, Option, Some, None, All, nat_le, slice_get, unwrap_or, if◌then◌else◌, refl, FitsSigned}
use Rattle.std.specs.List.{list_all}
use Rattle.std.specs.Option.{option_to_list}
use Rattle.std.specs.Int.{w32}
use Rattle.std.proofs.Common.{◌∙◌, ap, sym, subst, arith, length-append}
use Rattle.std.proofs.lemmas.Bool.{and_parts}
use Rattle.std.proofs.lemmas.List.Elements.{All-nil, All-cons, All-head, All-tail}
use Rattle.aw_cell.specs.declared.cell.Cell.{Cell}
use Rattle.aw_cell.specs.declared.cell.Cell.TheVariants.{Na, Num, Int, Text, Bool, Slot}
use Rattle.aw_cell.specs.Laws.{TextsTellApart}
use Rattle.aw_cell.specs.Names.{is_name}
use Rattle.aw_cell.specs.Text.{is_text_byte}
use Rattle.aw_var.specs.CellMap.{KeyedCell, Cells}
use Rattle.aw_schema.specs.declared.definition.Def.{Def}
use Rattle.aw_schema.specs.declared.definition.DefKind.{DefKind}
use Rattle.aw_schema.specs.Definitions.{is_kept, has_form}
use Rattle.aw_body.specs.declared.body.Body.{Body}
use Rattle.aw_body.specs.declared.body.Body.TheVariants.{Dim, Rel, Set, Var}
use Rattle.aw_body.specs.declared.change.Change.{Change}
use Rattle.aw_body.specs.Bodies.{IsBody}
use Rattle.aw_body.specs.Generations.{change_of, changes_of}
use Rattle.aw_body.specs.KeptBodies.{bodies_of}
use Rattle.aw_codec.specs.declared.record.Decoded.{Decoded}
use Rattle.aw_codec.specs.declared.record.Decoded.TheVariants.{Definitions, Commit}
use Rattle.aw_codec.specs.Records.{IsDefinition, IsSpelled, IsKeyedCell}
use Rattle.mv_core.specs.Workspace as core
use Rattle.mv_core.specs.Workspace.{Workspace}
use Rattle.aw_store.specs.StoredRecords.{are_replayed, are_accepted_after, are_commits_after, definitions_of, workspace_of, stood_by, CanBeOpened}
use Rattle.script_meaning.specs.Dump.{IsSmall, IsCellTold, IsBodyTold, IsDumpable, AreDumpable, dumped, RecordsTell}
use Rattle.script_meaning.specs.Fit.{CanBeWritten, IsKeptOf}
use Rattle.script_meaning.proofs.Dumping.{dump_tells}
use Rattle.script_meaning.proofs.KeptKinds.{if-some, here-kept}
use Rattle.script_meaning.proofs.StoredBodies.{KeptBodies, all-at, first-kept, stored-kept}
use Rattle.aw_store.proofs.callers.Following.{length-commits_of}

-- ---- bodies that a record can hold

small : (z : ℤ) → FitsSigned w32 z → IsSmall z
small (pos n) fits = omega (arith, fits)
small (negsuc n) fits = omega (arith, fits)

spelled-told : (cell : Cell) → IsSpelled cell → IsCellTold cell
spelled-told Na it = tt
spelled-told (Num units) it = it
spelled-told (Int z) it = small z it.0
spelled-told (Text bytes) it = (and_parts (nat_le (length bytes) 64) (list_all is_text_byte bytes) it).1
spelled-told (Bool truth) it = tt
spelled-told (Slot slot) it = omega (arith, it)

cells-told : (cells : Cells) → All IsKeyedCell cells → All (λ pair. IsCellTold pair.1) cells
cells-told [] it = All-nil (λ (pair : KeyedCell). IsCellTold pair.1)
cells-told (pair ∷ cells) it =
    All-cons (λ (pair : KeyedCell). IsCellTold pair.1) pair cells (spelled-told pair.1 (All-head IsKeyedCell pair cells it).2) (cells-told cells (All-tail IsKeyedCell pair cells it))

body-told : (body : Body) → IsBody body → CanBeWritten body → IsBodyTold body
body-told (Dim values) valid written = valid
body-told (Rel contents) valid written = (valid, cells-told contents.cells written)
body-told (Set slots) valid written = written.1
body-told (Var contents) valid written = (valid, cells-told contents.cells written)

-- ---- numbers

few-changes : (definitions : List Def) (object : ℕ) (history : List (List Change)) → length (changes_of (bodies_of definitions) object history) ≤ length history
few-changes definitions object [] = omega arith
few-changes definitions object (commit ∷ history) =
    omega (arith, one (change_of (bodies_of definitions) object commit), few-changes definitions object history, length-append (option_to_list (change_of (bodies_of definitions) object commit)) (changes_of (bodies_of definitions) object history))
  where
    one : (found : Option Change) → length (option_to_list found) ≤ 1
    one None = omega arith
    one (Some change) = omega arith

-- ---- the objects

-- each is one that can be dumped
module _ (w : Workspace) (kept : KeptBodies w.definitions w.history) (named : All IsDefinition w.definitions) (few : length w.history + 1 < 18446744073709551616) where
  one-dumpable : (object : ℕ) (def : Def) → slice_get w.definitions object ≡ Some def → (b : Truth) → is_kept def.kind ≡ b → IsDumpable def.kind (if b then Some (core.object_of (bodies_of w.definitions) w object) else None)
  one-dumpable object def there false is = is
  one-dumpable object def there true is =
      let it = if-some (λ (kind : DefKind). IsKeptOf kind (core.object_of (bodies_of w.definitions) w object).body) _ def.kind (here-kept w.definitions object def there is) (kept object) in
      (omega (arith, few-changes w.definitions object w.history, few), it.form.form, body-told _ it.form.valid it.written)

  dumpable-from : (at : ℕ) (definitions : List Def) → ((k : ℕ) (def : Def) → slice_get definitions k ≡ Some def → slice_get w.definitions (at + k) ≡ Some def) → AreDumpable definitions (core.standing_from (bodies_of w.definitions) w at definitions)
  dumpable-from at [] there = tt
  dumpable-from at (def ∷ definitions) there =
      let none_more : at + 0 ≡ at = omega arith in
      let here : slice_get w.definitions at ≡ Some def = sym (ap (slice_get w.definitions) none_more) ∙ there 0 def refl in (
        (and_parts (is_name def.name) (has_form def.kind) (all-at IsDefinition w.definitions at def named here).0).0,
        one-dumpable at def here (is_kept def.kind) refl,
        dumpable-from (at + 1) definitions (λ k other is.
            let one_more : at + suc k ≡ at + 1 + k = omega arith in
            sym (ap (slice_get w.definitions) one_more) ∙ there (suc k) other is),
      )

  all-dumpable : AreDumpable w.definitions (core.standing (bodies_of w.definitions) w)
  all-dumpable = dumpable-from 0 w.definitions (λ k def is. let same : 0 + k ≡ k = omega arith in ap (slice_get w.definitions) same ∙ is)

-- ---- records

dumpable : (records : List Decoded) → CanBeOpened records → length records < 18446744073709551616 → AreDumpable (unwrap_or (definitions_of records) []) (stood_by records []).objects
dumpable [] can few = tt
dumpable (Commit changes ∷ records) can few = tt
dumpable (Definitions definitions ∷ records) can few =
    let kinds = and_parts (are_replayed definitions) (are_accepted_after [] definitions && are_commits_after definitions [] records) can.replayable in
    let commits = (and_parts (are_accepted_after [] definitions) (are_commits_after definitions [] records) kinds.1).1 in
    let kept = stored-kept definitions records [] can.spellings.1 commits (first-kept definitions can.spellings.0) in
    all-dumpable (workspace_of (Definitions definitions ∷ records) []) kept can.spellings.0.spelling.1 (omega (arith, length-commits_of records, few))

pub records_tell : TextsTellApart → (one other : List Decoded) → RecordsTell one other
records_tell told_apart one other can can' few few' same text =
    dump_tells told_apart (unwrap_or (definitions_of one) []) (stood_by one []).objects (stood_by other []).objects (dumpable one can few)
    (subst (λ (found : Option (List Def)). AreDumpable (unwrap_or found []) (stood_by other []).objects) (sym same) (dumpable other can' few'))
    (text ∙ ap (λ (found : Option (List Def)). dumped (unwrap_or found []) (stood_by other []).objects) (sym same))
