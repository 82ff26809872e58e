-- Looking up fixed values.
use Rattle.std.specs.Prelude.{◌≡◌, ℕ, List, Option, Some, None, Result, Ok, Err}
use Rattle.dml_exec.specs.declared.kinds.Fix.{Fix}
use Rattle.dml_loop.specs.declared.fault.LoopFault.{LoopFault}
use Rattle.dml_loop.specs.declared.fault.LoopFault.TheVariants.{NoValue, NoMemory}
use Rattle.dml_loop.specs.Loops.{all_of}

-- a slot, or that there is no such value
abbrev pub slot_or : List ℕ → Option ℕ → Result ℕ LoopFault
slot_or value (Some slot) = Ok slot
slot_or value None = Err (NoValue value)

-- the slot of the value that a fix names
abbrev pub slot_of_fix : (ℕ → List ℕ → Option ℕ) → Fix → Result ℕ LoopFault
slot_of_fix slot_of fix = slot_or fix.value (slot_of fix.dimension fix.value)

-- the slots of all fixes in order, or the first value that isn't there
abbrev pub slots_of_fixes : (ℕ → List ℕ → Option ℕ) → List Fix → Result (List ℕ) LoopFault
slots_of_fixes slot_of fixes = all_of (slot_of_fix slot_of) fixes

-- an answer is this one, unless memory was wanting
abbrev pub Answers : {A : Type 0} → Result A LoopFault → Result A LoopFault → Type 0
Answers meant (Ok value) = meant ≡ Ok value
Answers meant (Err NoMemory) = Unit {0}
Answers meant (Err why) = meant ≡ Err why
