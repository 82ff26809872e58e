-- The listeners of a feed, and what becomes of them when they are told notes.
use Rattle.std.specs.Prelude.{◌≡◌, ℕ, List, Option, IfSome, is_none, filter_map}
use Rattle.std.specs.List.{AllZip, list_any}
use Rattle.aw_feed.specs.Listener.{Note, Grows, goes_at}

-- what a listener tells of itself, each where it tells it: the notes that it stayed for, and the least
-- number at which it goes, or that there is none
pub record Listening : Type 0 where
  pub told : Option (List Note)
  pub last : Option (Option ℕ)

-- a listener was told these notes, and either it stayed for each and is as `answer` says, or it went
-- (`None`). One that tells when it goes went exactly where one of the numbers is such
pub record HasHeard (notes : List Note) (before : Listening) (answer : Option Listening) : Type 0 where
  pub stays : IfSome answer (λ now. Grows before.told now.told notes × (now.last ≡ before.last))
  pub goes : IfSome before.last (λ last. is_none answer ≡ list_any (λ note. goes_at last note.0) notes)

-- each listener was told these notes, and those that stayed are left, in their order
pub record HaveHeard (notes : List Note) (before now : List Listening) : Type 0 where
  pub answers : List (Option Listening)
  pub each : AllZip (HasHeard notes) before answers
  pub left : now ≡ filter_map (λ answer. answer) answers
