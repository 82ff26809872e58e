-- How a catalogue keeps its definitions.
use Rattle.std.specs.Prelude.{ℕ, ◌≡◌, ◌≤◌, ◌*◌, ◌+◌, length, map}
use Rattle.std.specs.Global.{Vec}
use Rattle.indexmap.specs.IndexMap.{IndexMap, keys, values}
use Rattle.aw_cell.specs.Names.{lowercase}
use Rattle.aw_schema.specs.declared.definition.Def.{Def}
use Rattle.aw_schema.specs.Checking.{AreAccepted}
use Rattle.aw_schema.specs.RecordLength.{record_len}

pub record IsIndexed {S : Type 0} (defs : IndexMap (Vec ℕ) Def S) (bytes : ℕ) : Type 0 where
  -- each definition stands under its name in lower case
  pub names : map (λ key. key.items) (keys defs) ≡ map (λ (def : Def). lowercase def.name) (values defs)
  pub accepted : AreAccepted (values defs)
  pub most : length (values defs) ≤ 4096
  pub size : bytes ≡ record_len (values defs)
  -- so many bytes at most, that one definition more fits in 64 bits
  pub room : bytes ≤ 4 + length (values defs) * 8589934592
