-- The rule of the table of a desk. Word 0 is the ticket, word 1 is serving, and the slot has the machine where no seat has it out.
--     Kept opening most s      the rule
--     Knows .. i v             what it says of the view v at the seat i
--     Whole step opening most callers m      one legal history leads to the machine m; it has the calls of these callers and of no others, and each number below `most` stands once among them
use Rattle.std.specs.Prelude.{◌≡◌, ℕ, ◌+◌, ◌%◌, ◌^◌, ◌<◌, ◌≤◌, List, [], ◌∷◌, length, true, false, Option, Some, None}
use Rattle.std.proofs.Common.{cond, eqb, ltb}
use mathlib.Core.Option as maybe
use lib.ListN.{get_elem?}
use Rattle.atomic_table.specs.Table.{State}
use Rattle.mv_desk.specs.History.{StartsWith, calls_by, Leads}
use Rattle.mv_desk.specs.declared.history.Call.{Call}
use Rattle.mv_desk.specs.declared.view.Caller.{Caller}
use Rattle.mv_desk.specs.declared.view.View.{View}
use Rattle.mv_desk.specs.inside.Seats.{fresh}

-- a number of each element, added up
abbrev pub total : {A : Type 0} → (A → ℕ) → List A → ℕ
total f [] = 0
total f (x ∷ xs) = f x + total f xs

-- 1 for a number below the count, 0 for others
abbrev pub once_below : ℕ → ℕ → ℕ
once_below n count = cond (ltb n count) 1 0

module _ {E R : Type 0} where
  -- how often a number stands among callers
  abbrev pub times : ℕ → List (Caller E R) → ℕ
  times n [] = 0
  times n (c ∷ cs) = cond (eqb n c.number) 1 0 + times n cs

  -- what the caller has seen begins the history, and its calls are all that the history has of it
  abbrev pub IsOf : List (Call E R) → Caller E R → Type 0
  IsOf log c = StartsWith log c.seen × (c.mine ≡ calls_by c.number log)

  abbrev pub AreOf : List (Call E R) → List (Caller E R) → Type 0
  AreOf log [] = Unit {0}
  AreOf log (c ∷ cs) = IsOf log c × AreOf log cs

  -- the numbers of the calls are below this one
  abbrev pub Below : ℕ → List (Call E R) → Type 0
  Below n [] = Unit {0}
  Below n (call ∷ log) = (call.by < n) × Below n log

-- 1 for a view that waits or has the turn
abbrev pub waits_at : Option ℕ → ℕ
waits_at None = 0
waits_at (Some d) = 1

-- the slot: the machine is out with the seat that has the turn
abbrev pub homes_of : {S : Type 0} → Option ℕ → S → List (maybe.Option S)
homes_of None m = maybe.some m ∷ []
homes_of (Some i) m = maybe.none ∷ []

module _ {S E R : Type 0} where
  abbrev pub waits : View S E R → ℕ
  waits v = waits_at v.ticket

  abbrev pub size : View S E R → ℕ
  size v = length v.callers

  abbrev pub numbered : ℕ → View S E R → ℕ
  numbered n v = times n v.callers

  -- the view of the first caller
  abbrev pub newcomer : S → View S E R
  newcomer opening = record { opening = Some opening; callers = fresh 0 ∷ []; count = Some 1; ticket = None; turn = false; copy = [] }

  pub record Knows (opening : S) (log : List (Call E R)) (draws count keeper : ℕ) (holder : Option ℕ) (i : ℕ) (v : View S E R) : Type 0 where
    pub opened : (o : S) → v.opening ≡ Some o → o ≡ opening
    -- a ticket is the number of a draw that isn't served yet
    pub ticket : (d : ℕ) → v.ticket ≡ Some d → (length log ≤ d) × (d < draws) × (0 < length v.callers)
    -- the turn is at most one seat's, whose ticket is next and whose copy is the whole history
    pub turn : v.turn ≡ true → (holder ≡ Some i) × (v.ticket ≡ Some (length log)) × (v.copy ≡ log)
    pub callers : AreOf log v.callers
    -- the count is at most one seat's
    pub counts : (c : ℕ) → v.count ≡ Some c → (c ≡ count) × (i ≡ keeper) × (0 < length v.callers)

module _ {S E R : Type 0} (step : S → E → R → S → Type 0) where
  abbrev pub Whole : S → ℕ → List (Caller E R) → S → Type 0
  Whole opening most cs m = (log : List (Call E R)) × Leads step opening log m × AreOf log cs × Below most log × (length cs ≡ most) × ((n : ℕ) → times n cs ≡ once_below n most)

  pub record Kept (opening : S) (most : ℕ) (s : State S (View S E R)) : Type 0 where
    -- how many tickets were drawn, and the history
    pub draws : ℕ
    pub log : List (Call E R)
    -- the machine after the history, where it is at home
    pub machine : S
    -- how many callers were made, the seat that has this count, and the seat that has the turn
    pub count : ℕ
    pub keeper : ℕ
    pub holder : Option ℕ
    -- Tickets: serving says how many calls the history has, and each draw beyond them is one view's ticket
    pub words : s.words ≡ draws % 2 ^ 64 ∷ length log ∷ []
    pub fits : length log < 2 ^ 64
    pub drawn : draws ≡ length log + total waits s.views
    pub apart : (i j d : ℕ) (v w : View S E R) → get_elem? s.views i ≡ maybe.some v → get_elem? s.views j ≡ maybe.some w → v.ticket ≡ Some d → w.ticket ≡ Some d → j ≡ i
    -- Callers: over all views, the numbers below the count stand once, and the history is theirs
    pub sized : total size s.views ≡ count
    pub within : (count ≤ most) × (most ≤ 64)
    pub numbers : (n : ℕ) → total (numbered n) s.views ≡ once_below n count
    pub below : Below count log
    -- The turn: the history is legal, and the machine is at home exactly where no view has the turn
    pub legal : Leads step opening log machine
    pub homes : s.homes ≡ homes_of holder machine
    pub held : (i : ℕ) → holder ≡ Some i → (v : View S E R) × (get_elem? s.views i ≡ maybe.some v) × (v.turn ≡ true)
    -- What each view knows
    pub each : (i : ℕ) (v : View S E R) → get_elem? s.views i ≡ maybe.some v → Knows opening log draws count keeper holder i v
