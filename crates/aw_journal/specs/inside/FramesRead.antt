-- What loading has read of a disk.
use Rattle.std.specs.Prelude.{◌≡◌, ◌≢◌, ◌≤◌, ◌<◌, ◌+◌, ◌^◌, ℕ, List, ◌∷◌, ◌++◌, length, take, drop, Option, IfSome}
use Rattle.aw_lists.specs.Faults.{Rose}
use Rattle.aw_journal.specs.Format.{head, frames, size_bytes, AreShort, placed}
use Rattle.aw_journal.specs.declared.gate.Gate.{Gate}
use Rattle.aw_journal.specs.declared.gate.Gate.TheVariants as gate
use Rattle.aw_journal.specs.declared.read.Found.{Found}
use Rattle.aw_journal.specs.declared.fault.LoadFault.{LoadFault}
use Rattle.aw_journal.specs.declared.fault.LoadFault.TheVariants as fault

-- the bytes begin with this gate
abbrev pub Begins : Gate → List ℕ → Type 0
Begins gate.Closed bytes = (byte : ℕ) × (rest : List ℕ) × (byte ≢ 1) × (bytes ≡ byte ∷ rest)
Begins (gate.Open size) bytes = (rest : List ℕ) × (size < 2 ^ 32) × (bytes ≡ 1 ∷ (size_bytes size ++ rest))
Begins gate.CutShort bytes = (rest : List ℕ) × (length rest < 4) × (bytes ≡ 1 ∷ rest)

-- the content is these payloads in frames, and then this gate
pub record HasRead (payloads : List (List ℕ)) (next : Gate) (content : List ℕ) : Type 0 where
  pub rest : List ℕ
  pub bytes : content ≡ head ++ frames payloads ++ rest
  pub begins : Begins next rest

-- the payloads found so far, and the gate behind them
pub record Progress (content : Option (List ℕ)) (found : Found) (next : Gate) : Type 0 where
  pub places : found.payloads ≡ placed 8 found.settled.payloads
  pub place : found.gate ≡ 8 + length (frames found.settled.payloads)
  pub bound : found.gate < 2 ^ 62
  pub short : AreShort found.settled.payloads
  pub told : IfSome content (HasRead found.settled.payloads next)

-- a frame's payload and the gate behind it, as the content has them from this place on
pub record IsFrame (place size : ℕ) (payload : List ℕ) (next : Gate) (content : List ℕ) : Type 0 where
  pub bytes : payload ≡ take size (drop place content)
  pub begins : Begins next (drop (place + size) content)

-- why a frame was refused
abbrev pub FrameExplains : LoadFault → ℕ → ℕ → Option (List ℕ) → ℕ → ℕ → Type 0
FrameExplains fault.Unformatted at size content before now = ⊥
FrameExplains (fault.Damaged offset) at size content before now = (offset ≡ at) × IfSome content (λ bytes. length bytes ≤ at + 5 + size)
FrameExplains fault.DiskFault at size content before now = Rose before now
FrameExplains fault.NoMemory at size content before now = Unit {0}
