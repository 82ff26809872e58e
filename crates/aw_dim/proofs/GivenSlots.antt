-- A slot that was given is never given again.
use Rattle.std.proofs.Common.{ℕ, ◌≡◌, ◌<◌, ◌≤◌, ◌+◌, List, [], ◌∷◌, ◌++◌, arith, refl}
use Rattle.std.specs.List.{All, AllPairs}
use Rattle.std.proofs.lemmas.List.Elements.{All-cons}
use Rattle.std.proofs.lemmas.List.Kept.{AllPairs-cons}
use Rattle.aw_dim.specs.DimensionState.{DimensionState}
use Rattle.aw_dim.specs.Edits.{added, removed, renamed, moved}
use Rattle.aw_dim.specs.Calls.{Call, given, after, NeverAgain, SlotsAreNeverGivenAgain}
use Rattle.aw_dim.specs.Calls.Call.{add, remove, rename, move_to, nothing}

from_next : (next : ℕ) (slots : List ℕ) → All (λ slot. next + 1 ≤ slot) slots → All (λ slot. next ≤ slot) slots
from_next next slots all = λ k d h. let above = all k d h in omega arith

above : (next : ℕ) (slots : List ℕ) → All (λ slot. next + 1 ≤ slot) slots → All (λ slot. next < slot) slots
above next slots all = λ k d h. let least = all k d h in omega arith

pub never_again : SlotsAreNeverGivenAgain
never_again values [] = record { are_new = λ k d h. absurd (omega (arith, h)); rise = λ i j d h g. absurd (omega (arith, g)) }
never_again values (add name place ∷ calls) =
    let rest = never_again (added values name place) calls in
    record {
      are_new = All-cons (λ slot. values.next ≤ slot) values.next (given (added values name place) calls) (omega arith) (from_next values.next (given (added values name place) calls) rest.are_new);
      rise = AllPairs-cons (λ one other. one < other) values.next (given (added values name place) calls) (above values.next (given (added values name place) calls) rest.are_new) rest.rise;
    }
never_again values (remove slot ∷ calls) = let rest = never_again (removed values slot) calls in record { are_new = rest.are_new; rise = rest.rise }
never_again values (rename slot name ∷ calls) = let rest = never_again (renamed values slot name) calls in record { are_new = rest.are_new; rise = rest.rise }
never_again values (move_to slot place ∷ calls) = let rest = never_again (moved values slot place) calls in record { are_new = rest.are_new; rise = rest.rise }
never_again values (nothing ∷ calls) = let rest = never_again values calls in record { are_new = rest.are_new; rise = rest.rise }
