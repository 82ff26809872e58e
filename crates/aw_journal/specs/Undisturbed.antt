-- Calls that only read a disk.
use Rattle.std.specs.Prelude.{◌≡◌, ◌≤◌, ℕ, List, Option}
use Rattle.aw_disk.specs.Moments.{Unmoved}

-- calls that change neither the content nor what a crash may leave
pub record Undisturbed {D : Type 0} (content : D → Option (List ℕ)) (faults clock : D → ℕ) (crash : D → ℕ → List ℕ → Type 0) (old new : D) : Type 0 where
  pub stays : content new ≡ content old
  pub time : Unmoved (clock old) (clock new) (crash old) (crash new)
  pub later : faults old ≤ faults new
