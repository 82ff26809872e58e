-- What a listener tells of itself, and how it answers a note: a record's number with its payload.
use Rattle.std.specs.Prelude.{◌≡◌, ℕ, Bool, false, nat_le, List, [], ◌∷◌, ◌++◌, Option, None, Some}
use Rattle.aw_feed.specs.declared.listener.Heard.{Heard}
use Rattle.aw_feed.specs.declared.listener.Heard.TheVariants.{Stay, Gone}

abbrev pub Note : Type 0
Note = ℕ × List ℕ

-- the longest payload of a record, in bytes
abbrev pub longest_payload : ℕ
longest_payload = 67108864

-- notes told before and now, where they are told, with these in between. A listener may stop telling, and
-- one that stopped doesn't tell again
abbrev pub GainsNotes : Option (List Note) → Option (List Note) → List Note → Type 0
GainsNotes before None notes = Unit {0}
GainsNotes None (Some now) notes = ⊥
GainsNotes (Some before) (Some now) notes = now ≡ before ++ notes

-- what is told grew by these notes, where it is told
pub record Grows (before now : Option (List Note)) (notes : List Note) : Type 0 where
  pub where_told : GainsNotes before now notes

-- a listener that stays for a note tells it too; one that goes tells what it told before
abbrev pub Hears : Heard → Option (List Note) → Option (List Note) → Note → Type 0
Hears Stay before now note = Grows before now (note ∷ [])
Hears Gone before now note = Grows before now []

-- whether a listener goes at this number, where `last` is the least number at which it goes, or says that
-- there is none
abbrev pub goes_at : Option ℕ → ℕ → Bool
goes_at None number = false
goes_at (Some least) number = nat_le least number
