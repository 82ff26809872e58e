-- Dumping a table object by object.
use Rattle.std.proofs.Common.{◌≡◌, ◌∙◌, ℕ, zero, suc, ◌+◌, ◌<◌, ◌++◌, ◌∷◌, [], List, length, drop, slice_get, Some, None, Option, unwrap_or, sym, ap, subst, arith}
use Rattle.aw_schema.specs.declared.definition.Def.{Def}
use Rattle.aw_body.specs.declared.body.Body.{Body}
use Rattle.aw_body.specs.KeptBodies.{bodies_of}
use Rattle.aw_body.specs.Owners.{Owners}
use Rattle.aw_codec.specs.declared.record.Decoded.{Decoded}
use Rattle.mv_core.specs.declared.object.Object.{Object}
use Rattle.mv_core.specs.Lookups.{kept_at}
use Rattle.mv_core.specs.Workspace.{Table}
use Rattle.aw_store.specs.StoredRecords.{definitions_of, workspace_of, stood_by}
use Rattle.aw_store.proofs.callers.StandingObjects.{length-standing}
use Rattle.aw_io.specs.Known.{Grows, GrowsByFront}
use Rattle.script_meaning.specs.Dump.{dumped_kept, dumped}
use Rattle.script_disk.proofs.Written.{HasPut, put_more, put_front}

next : (definitions : List Def) (objects : List (Option (Object Body))) (at : ℕ) (def : Def) →
    slice_get definitions at ≡ Some def → length definitions ≡ length objects →
    dumped (drop at definitions) (drop at objects) ≡ dumped_kept def.name (kept_at objects at) ++ dumped (drop (suc at) definitions) (drop (suc at) objects)
next [] objects at def there same = cc
next (d ∷ definitions) [] at def there same = absurd (omega (arith, same))
next (d ∷ definitions) (found ∷ objects) zero def there same =
    let is : d ≡ def = cc in
    ap (λ (x : Def). dumped_kept x.name found ++ dumped definitions objects) is
next (d ∷ definitions) (found ∷ objects) (suc at) def there same =
    next definitions objects at def there (omega (arith, same))

module _ (definitions : List Def) (objects : List (Option (Object Body))) (at : ℕ) (def : Def) (there : Some def ≡ slice_get definitions at) (same : length definitions ≡ length objects) where
  -- from the next object on: that object, and then the others
  comes : dumped (drop at definitions) (drop at objects) ≡ dumped_kept def.name (kept_at objects at) ++ dumped (drop (at + 1) definitions) (drop (at + 1) objects)
  comes =
      let one_more : suc at ≡ at + 1 = omega arith in
      next definitions objects at def (sym there) same
      ∙ ap (λ (k : ℕ). dumped_kept def.name (kept_at objects at) ++ dumped (drop k definitions) (drop k objects)) one_more

  -- after the object at a place
  pub object_put : (before now next : Option (List ℕ)) → HasPut before now (dumped (drop at definitions) (drop at objects)) (dumped definitions objects) → Grows now next (dumped_kept def.name (kept_at objects at)) →
      HasPut before next (dumped (drop (at + 1) definitions) (drop (at + 1) objects)) (dumped definitions objects)
  object_put before now next had grew =
      put_more (dumped_kept def.name (kept_at objects at)) (dumped (drop (at + 1) definitions) (drop (at + 1) objects)) (dumped (drop at definitions) (drop at objects)) (dumped definitions objects) had comes grew

  -- where the sink took only a front of it
  pub object_front : (before now next : Option (List ℕ)) → HasPut before now (dumped (drop at definitions) (drop at objects)) (dumped definitions objects) → GrowsByFront now next (dumped_kept def.name (kept_at objects at)) →
      GrowsByFront before next (dumped definitions objects)
  object_front before now next had front =
      put_front (dumped_kept def.name (kept_at objects at)) (dumped (drop (at + 1) definitions) (drop (at + 1) objects)) (dumped (drop at definitions) (drop at objects)) (dumped definitions objects) had comes front

-- there is a definition at each place
pub never_none : (definitions : List Def) (at : ℕ) → at < length definitions → None ≡ slice_get definitions at → ⊥
never_none [] at below none = omega (arith, below)
never_none (def ∷ definitions) zero below none = cc
never_none (def ∷ definitions) (suc at) below none = never_none definitions at (omega (arith, below)) none

-- there is an object for each definition
pub sized_table : (table : Table) (records : List Decoded) (owners : Owners) → table ≡ stood_by records owners → length table.definitions ≡ length table.objects
sized_table table records owners is =
    subst (λ (t : Table). length t.definitions ≡ length t.objects) (sym is) (sym (length-standing (bodies_of (unwrap_or (definitions_of records) [])) (workspace_of records owners)))
