-- The five kinds of step at the table of a desk, and what each tells the seat that makes it. `Me` is a seat's view and the slots that it holds.
--     drew        to draw a ticket: an add to the ticket word, and the view has the number of the draw
--     looked      to look at serving: where it is the ticket, the view has the turn and a copy of the history, and the seat the machine
--     passed      to pass the turn on, with a call: an add to serving, by which the call joins the history and the machine goes back into the slot
--     splitting, split_off      to split a seat: one more caller, whose number is the count, in a view of its own
--     joined, nobody            to join a seat: its callers come first, and nothing is left of it
use Rattle.std.specs.Prelude.{◌≡◌, ◌≢◌, ℕ, ◌+◌, ◌%◌, ◌^◌, List, [], ◌∷◌, ◌++◌, length, true, false, Option, Some, None}
use Rattle.atomic_table.specs.Table.{Me, Step}
use Rattle.mv_desk.specs.History.{Leads}
use Rattle.mv_desk.specs.declared.history.Call.{Call}
use Rattle.mv_desk.specs.declared.view.Caller.{Caller}
use Rattle.mv_desk.specs.declared.view.View.{View}
use Rattle.mv_desk.specs.inside.Rule.{AreOf}
use Rattle.mv_desk.specs.inside.Seats.{fresh}

-- the first caller has seen the history with this call, which is its own
abbrev pub served_as : {E R : Type 0} → List (Call E R) → Call E R → List (Caller E R) → List (Caller E R)
served_as log call [] = []
served_as log call (c ∷ cs) = record { number = c.number; seen = log ++ call ∷ []; mine = c.mine ++ call ∷ [] } ∷ cs

module _ {S E R : Type 0} where
  abbrev pub waiting : ℕ → View S E R → View S E R
  waiting d v = record { opening = v.opening; callers = v.callers; count = v.count; ticket = Some d; turn = false; copy = [] }

  abbrev pub taking : List (Call E R) → View S E R → View S E R
  taking log v = record { opening = v.opening; callers = v.callers; count = v.count; ticket = v.ticket; turn = true; copy = log }

  abbrev pub served : Call E R → View S E R → View S E R
  served call v = record { opening = v.opening; callers = served_as v.copy call v.callers; count = v.count; ticket = None; turn = false; copy = [] }

  abbrev pub Drawn : Me S (View S E R) → ℕ → Me S (View S E R) → Type 0
  Drawn m ticket m' = (d : ℕ) × (m' ≡ (waiting d m.0, m.1)) × (ticket ≡ d % 2 ^ 64)

  abbrev pub drew : Step S → Me S (View S E R) → ℕ → Me S (View S E R) → Type 0
  drew s m r m' = Drawn m r m'

  module _ (step : S → E → R → S → Type 0) where
    -- the seat has the turn, and the machine
    abbrev pub Holds : Me S (View S E R) → ℕ → Me S (View S E R) → Type 0
    Holds m place m' = (log : List (Call E R)) × (x : S) × (m' ≡ (taking log m.0, (0, x) ∷ m.1)) × (place ≡ length log) × AreOf log m.0.callers × ((o : S) → m.0.opening ≡ Some o → Leads step o log x)

    abbrev pub looked : Step S → Me S (View S E R) → ℕ → Me S (View S E R) → Type 0
    looked s m r m' = (d : ℕ) → m.0.ticket ≡ Some d → (r ≡ d % 2 ^ 64 → Holds m r m') × (r ≢ d % 2 ^ 64 → m' ≡ m)

    -- the one caller of the view has the machine, which took the entry of this call
    abbrev pub CanPass : S → Call E R → Me S (View S E R) → Type 0
    CanPass opening call m = (c : Caller E R) × (x : S) × (y : S) × (call.by ≡ c.number) × (m.0.callers ≡ c ∷ []) × (m.1 ≡ (0, y) ∷ []) × Leads step opening m.0.copy x × step x call.entry call.reply y

  abbrev pub passed : Option (Call E R) → Step S → Me S (View S E R) → ℕ → Me S (View S E R) → Type 0
  passed said s m r m' = (call : Call E R) × (said ≡ Some call) × (m' ≡ (served call m.0, []))

abbrev pub count_or : Option ℕ → ℕ
count_or None = 0
count_or (Some n) = n

abbrev pub more : Option ℕ → Option ℕ
more None = None
more (Some n) = Some (n + 1)

abbrev pub either_count : Option ℕ → Option ℕ → Option ℕ
either_count None b = b
either_count (Some n) b = Some n

module _ {S E R : Type 0} where
  abbrev pub splitting : View S E R → View S E R
  splitting v = record { opening = v.opening; callers = v.callers; count = more v.count; ticket = v.ticket; turn = v.turn; copy = v.copy }

  abbrev pub split_off : View S E R → View S E R
  split_off v = record { opening = v.opening; callers = fresh (count_or v.count) ∷ []; count = None; ticket = None; turn = false; copy = [] }

  abbrev pub joined : View S E R → View S E R → View S E R
  joined v w = record { opening = v.opening; callers = w.callers ++ v.callers; count = either_count v.count w.count; ticket = v.ticket; turn = v.turn; copy = v.copy }

  abbrev pub nobody : View S E R
  nobody = record { opening = None; callers = []; count = None; ticket = None; turn = false; copy = [] }
