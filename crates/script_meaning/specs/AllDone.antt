-- Outcomes that are all done change nothing, since a commit is done where no outcome is left.
use Rattle.std.specs.Prelude.{List, [], ℕ}
use Rattle.aw_codec.specs.declared.record.Decoded.{Decoded}
use Rattle.script_world.specs.Worlds.{Event}
use Rattle.script_world.specs.Outcomes.{Outcome}
use Rattle.script_world.specs.Laws.{SameOf}
use Rattle.script_meaning.specs.Language.{by_history}
use Rattle.script_meaning.specs.Transcript.{opening}

-- these events are answered as with no outcomes at all, and leave the same world
abbrev pub IsAsWithNone : List (List ℕ) → List Decoded → List Outcome → List Event → Type 0
IsAsWithNone names records outcomes events = SameOf (by_history outcomes) (by_history []) (opening names records) events
