-- Weights as words of 32 bits.
use Rattle.std.specs.Prelude.{ℕ, min}

-- the greatest word stands for all greater weights
abbrev pub capped : ℕ → ℕ
capped weight = min weight 4294967295
