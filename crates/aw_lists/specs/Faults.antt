-- Counts that stop at the last number of 64 bits: the faults of a device, and its calls.
use Rattle.std.specs.Prelude.{ℕ, ◌+◌, ◌-◌, ◌^◌, ◌≤◌, ◌<◌, ◌≡◌, min}

-- a count after one more, which stays at its last value
abbrev pub next_count : ℕ → ℕ
next_count count = min (count + 1) (2 ^ 64 - 1)

-- the count is greater than before, or stands at its last value
abbrev pub Rose : ℕ → ℕ → Type 0
Rose before now = next_count before ≤ now

-- below its last value a count rises by one; at its last value it stays
abbrev pub CountsRise : Type 0
CountsRise = (count : ℕ) →
    (count < 2 ^ 64 - 1 → next_count count ≡ count + 1) ×
    (2 ^ 64 - 1 ≤ count → next_count count ≡ 2 ^ 64 - 1)
