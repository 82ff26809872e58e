-- What becomes of a list whose element was lent.
use Rattle.std.specs.Prelude.{ℕ, slice_set, List}
use Rattle.std.specs.Borrow.{Lends, MutBor, Fml}
use denote.RattleType.{RattleType}
use Rattle.aw_lists.specs.contracts.list.List.{the_row}

-- the list ends with the element at a place set to the last value behind r
abbrev pub LendsElement : (T : RattleType) → MutBor (List T.Denot) → ℕ → MutBor T.Denot → Fml
LendsElement T s at r = Lends (the_row T) T s r (slice_set s.now at)
