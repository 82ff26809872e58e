-- What a seat knows, as the facts of a pass.
use Rattle.std.specs.Prelude.{◌≡◌, ℕ, ◌<◌, List, [], ◌∷◌, None, false, length}
use Rattle.atomic_table.specs.Table.{Me}
use Rattle.atomic_table.specs.declared.shared.Seat.{Seat}
use Rattle.mv_desk.specs.declared.facts.PassFacts.{PassFacts}
use Rattle.mv_desk.specs.declared.view.Caller.{Caller}
use Rattle.mv_desk.specs.declared.view.View.{View}

module _ {E R : Type 0} where
  -- a caller that has seen and called nothing
  abbrev pub fresh : ℕ → Caller E R
  fresh n = record { number = n; seen = []; mine = [] }

  abbrev pub first_caller : List (Caller E R) → Caller E R
  first_caller [] = fresh 0
  first_caller (c ∷ cs) = c

module _ {S E R : Type 0} where
  abbrev pub caller : View S E R → Caller E R
  caller v = first_caller v.callers

  -- a seat with no ticket, no turn and no slot, which has callers
  abbrev pub IsIdle : Me S (View S E R) → Type 0
  IsIdle me = (me.0.ticket ≡ None) × (me.0.turn ≡ false) × (me.1 ≡ []) × (0 < length me.0.callers)

  -- such a seat with one caller: the seat of a pass
  abbrev pub IsReady : Me S (View S E R) → Type 0
  IsReady me = IsIdle me × (me.0.callers ≡ caller me.0 ∷ [])

  abbrev pub seat_facts : Seat S (View S E R) → PassFacts S E R
  seat_facts seat = record { opening = seat.me.0.opening; number = (caller seat.me.0).number; seen = (caller seat.me.0).seen; mine = (caller seat.me.0).mine; table = seat.table_id }

  -- the caller whose pass it is
  abbrev pub caller_of : PassFacts S E R → Caller E R
  caller_of pass = record { number = pass.number; seen = pass.seen; mine = pass.mine }
