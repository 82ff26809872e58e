-- Worked cases: the head, lengths, a frame, and the first workspace, each worked out by hand.
use Rattle.std.proofs.Common.{◌≡◌, ◌≢◌, ℕ, List, [], ◌∷◌, ◌++◌, refl, arith}
use Rattle.std.specs.Prelude.{codes}
use Rattle.aw_journal.specs.Format.{head, frames, size_bytes, AreShort, Holds}

pub the_head : head ≡ codes "OLAPMW1" ++ 10 ∷ []
the_head = refl

pub a_short_length : size_bytes 9 ≡ 0 ∷ 0 ∷ 0 ∷ 9 ∷ []
unfolding size_bytes
a_short_length = refl

pub a_length_of_two_bytes : size_bytes 258 ≡ 0 ∷ 0 ∷ 1 ∷ 2 ∷ []
unfolding size_bytes
a_length_of_two_bytes = refl

-- that of a payload of 67,108,864 bytes
pub the_greatest_length : size_bytes 67108864 ≡ 4 ∷ 0 ∷ 0 ∷ 0 ∷ []
unfolding size_bytes
the_greatest_length = refl

pub a_frame : frames ((68 ∷ 1 ∷ 0 ∷ []) ∷ []) ≡ 1 ∷ 0 ∷ 0 ∷ 0 ∷ 3 ∷ 68 ∷ 1 ∷ 0 ∷ []
unfolding size_bytes
a_frame = refl

-- a workspace without definitions
pub nothing_yet : Holds (codes "OLAPMW1" ++ 10 ∷ 0 ∷ []) []
nothing_yet = record { gate = 0; rest = []; closed = λ e. cc; short = tt; bytes = refl }

-- the definition of `v`, and the commit that sets it to 7
abbrev definition : List ℕ
definition = 68 ∷ 1 ∷ 0 ∷ 1 ∷ 1 ∷ 118 ∷ 3 ∷ 2 ∷ 0 ∷ []

abbrev commit : List ℕ
commit = 67 ∷ 1 ∷ 0 ∷ 1 ∷ 0 ∷ 0 ∷ 77 ∷ 0 ∷ 0 ∷ 0 ∷ 0 ∷ 1 ∷ 2 ∷ 0 ∷ 0 ∷ 0 ∷ 7 ∷ []

-- the 45 bytes of a workspace that holds both
pub first_workspace : Holds (79 ∷ 76 ∷ 65 ∷ 80 ∷ 77 ∷ 87 ∷ 49 ∷ 10 ∷ 1 ∷ 0 ∷ 0 ∷ 0 ∷ 9 ∷ 68 ∷ 1 ∷ 0 ∷ 1 ∷ 1 ∷ 118 ∷ 3 ∷ 2 ∷ 0 ∷ 1 ∷ 0 ∷ 0 ∷ 0 ∷ 17 ∷ 67 ∷ 1 ∷ 0 ∷ 1 ∷ 0 ∷ 0 ∷ 77 ∷ 0 ∷ 0 ∷ 0 ∷ 0 ∷ 1 ∷ 2 ∷ 0 ∷ 0 ∷ 0 ∷ 7 ∷ 0 ∷ []) (definition ∷ commit ∷ [])
unfolding size_bytes
first_workspace = record { gate = 0; rest = []; closed = λ e. cc; short = (omega arith, (omega arith, tt)); bytes = refl }
