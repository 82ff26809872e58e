-- A listener that keeps the notes in memory.
use Rattle.std.specs.Prelude.{ℕ, List, [], ◌∷◌, ◌++◌, Option}
use Rattle.aw_feed.specs.Listener.{Note}
use Rattle.aw_feed.specs.declared.listener.Heard.{Heard}
use Rattle.aw_feed.specs.declared.listener.Heard.TheVariants.{Stay, Gone}

-- the notes that it was told and kept, and the number from which it goes
pub record MemListenerState : Type 0 where
  pub told : List Note
  pub last : Option ℕ

-- the listener after a note with this answer
abbrev pub after_note : MemListenerState → Note → Heard → MemListenerState
after_note listener note Stay = record listener { told = listener.told ++ note ∷ [] }
after_note listener note Gone = listener
