-- What an assignment stores, and what is shown: code at places of a loop, and what its cells become.
use Rattle.std.specs.Prelude.{ℕ, ◌∷◌, [], List, map, unwrap_or, Option, Result, Ok, Err, All}
use Rattle.aw_cell.specs.declared.cell.Cell.{Cell}
use Rattle.aw_cell.specs.declared.cell.Cell.TheVariants.{Na, Text, Slot}
use Rattle.aw_cell.specs.declared.number.Arith.{Arith}
use Rattle.aw_cell.specs.CellArithmetic.{converted}
use Rattle.dml_exec.specs.declared.code.Code.{Code}
use Rattle.dml_exec.specs.declared.kinds.Kinds.{Kinds}
use Rattle.dml_exec.specs.Meaning.{CodeInputs, code_inputs, meaning}
use Rattle.dml_exec.specs.CodeRuns.{Accepts, Fits, MayAsk}
use Rattle.dml_loop.specs.declared.conversion.Target.{Target}
use Rattle.dml_loop.specs.declared.conversion.Target.TheVariants.{Kind, Relation}
use Rattle.dml_loop.specs.declared.fault.LoopFault.{LoopFault}
use Rattle.dml_loop.specs.declared.fault.LoopFault.TheVariants.{Arith as Refused, Empty}
use Rattle.dml_loop.specs.Fixes.{slot_or}
use Rattle.dml_loop.specs.Loops.{Place, all_of, on_ok, ok_map}

-- what code reads at a place
abbrev pub read_at : (ℕ → List ℕ → Cell) → (ℕ → ℕ → Cell) → List ℕ → List Cell → Place → CodeInputs
read_at cell name fixed locals place = code_inputs cell name place fixed locals

abbrev pub or_refused : {A : Type 0} → Result A Arith → Result A LoopFault
or_refused (Ok a) = Ok a
or_refused (Err why) = Err (Refused why)

-- the cell that code gives, or its refusal. Code that was accepted is never stuck, so that the NA here stands for nothing
abbrev pub cell_of : Code → CodeInputs → Result Cell LoopFault
cell_of code r = or_refused (unwrap_or (meaning r code.ops) (Ok Na))

-- what a cell becomes in its target: a number one of the target's kind, and in a relation a text the value of that name;
-- NA stays
abbrev pub stored : (ℕ → List ℕ → Option ℕ) → Target → Cell → Result Cell LoopFault
stored slot_of (Kind kind) cell = or_refused (converted kind cell)
stored slot_of (Relation dimension) (Text value) = ok_map Slot (slot_or value (slot_of dimension value))
stored slot_of (Relation dimension) cell = Ok cell

-- the slots of a place
abbrev pub slots_at : Place → List ℕ
slots_at place = map (λ entry. entry.1) place

-- where a value is given at each place: the coordinate of a place, and what is stored there
abbrev pub entry_of : (Place → Result Cell LoopFault) → (Cell → Result Cell LoopFault) → Place → Result (List ℕ × Cell) LoopFault
entry_of value becomes place = ok_map (λ cell. (slots_at place, cell)) (on_ok becomes (value place))

-- all cells in loop order, each evaluated and then converted; the first refusal decides
abbrev pub assigned : (Place → Result Cell LoopFault) → (Cell → Result Cell LoopFault) → List Place → Result (List (List ℕ × Cell)) LoopFault
assigned value becomes all = all_of (entry_of value becomes) all

-- ---- the first place

abbrev pub first_of : ℕ → List ℕ → Result (ℕ × ℕ) LoopFault
first_of dimension [] = Err (Empty dimension)
first_of dimension (slot ∷ slots) = Ok (dimension, slot)

-- each dimension at the first slot of its list; the first one whose list is empty is refused
abbrev pub first_place : List (ℕ × List ℕ) → Result Place LoopFault
first_place lists = all_of (λ list. first_of list.0 list.1) lists

-- the first place, where no list is empty
abbrev pub places_of : Result Place LoopFault → List Place
places_of (Ok place) = place ∷ []
places_of (Err why) = []

abbrev pub first_places : List (ℕ × List ℕ) → List Place
first_places lists = places_of (first_place lists)

-- the value at the first place
abbrev pub shown : (Place → Result Cell LoopFault) → List (ℕ × List ℕ) → Result Cell LoopFault
shown value lists = on_ok value (first_place lists)

-- ---- what a run at each of these places asks

-- code that was accepted over some kinds, which what it reads at each place fits
pub record CanLoop (code : Code) (read : Place → CodeInputs) (all : List Place) (may_read : ℕ → List ℕ → Type 0) (may_name : ℕ → ℕ → Type 0) : Type 0 where
  pub kinds : Kinds
  pub accepted : Accepts kinds code
  pub fits : All (λ place. Fits kinds code (read place)) all
  pub may_ask : MayAsk kinds may_read may_name
