-- What the listeners of a feed were told while a store went on.
use Rattle.std.specs.Prelude.{◌≡◌, ◌++◌, Bool, true, false, List, [], ◌∷◌, length, map, min}
use Rattle.aw_codec.specs.declared.record.Decoded.{Decoded}
use Rattle.aw_store.specs.StoredRecords.{last_spelling}
use Rattle.aw_store.specs.Stores.{StoreState}
use Rattle.aw_feed.specs.Feed.{Listening, HaveHeard}
use Rattle.script_play.specs.Runs.{notes_behind}

-- from one store to the next these records were settled, and the listeners were told each
pub record HasTold {D : Type 0} (before now : List Listening) (old new : StoreState D) : Type 0 where
  pub more : List Decoded
  pub settled : new.records ≡ old.records ++ more
  pub heard : HaveHeard (notes_behind (length old.records) more) before now

-- what these tell of themselves
abbrev pub listening_by : {X : Type 0} → List X → (X → Listening) → List Listening
listening_by listeners known = map known listeners

-- the listeners were told the last record of a store: its number, up to 2 ^ 64 - 1, and its payload
abbrev pub TellsLast : {D : Type 0} → StoreState D → List Listening → List Listening → Type 0
TellsLast store before now = HaveHeard ((min (length store.records) 18446744073709551615, last_spelling store.records) ∷ []) before now

-- and nothing where no record was written
abbrev pub TellsWhere : {D : Type 0} → Bool → StoreState D → List Listening → List Listening → Type 0
TellsWhere true store before now = TellsLast store before now
TellsWhere false store before now = now ≡ before
