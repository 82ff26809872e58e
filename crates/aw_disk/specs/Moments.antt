-- Time. A disk's clock counts moments and doesn't fall. For each moment the disk tells what a crash
-- then might have left, and this never changes once the clock has gone on. A disk whose clock
-- stands still tells of the present alone.
use Rattle.std.specs.Prelude.{ℕ, ◌<◌, ◌≤◌, ◌↔◌, List}
use Rattle.std.proofs.Common.{arith, subst, ⊎_elim}
use Rattle.std.proofs.lemmas.Bool.{cases_lt}

-- the clock and the images after a call that changes neither
pub record Unmoved (before now : ℕ) (past since : ℕ → List ℕ → Type 0) : Type 0 where
  pub clock : (now ≤ before) × (before ≤ now)
  pub images : (moment : ℕ) (image : List ℕ) → moment ≤ before → since moment image ↔ past moment image

-- the clock and the images after a call: moments that are past keep their images, and a crash from
-- the call's start on, within the call and after it, leaves one of `during`
pub record Elapsed (before now : ℕ) (past since : ℕ → List ℕ → Type 0) (during : List ℕ → Type 0) : Type 0 where
  pub later : before ≤ now
  pub kept : (moment : ℕ) (image : List ℕ) → moment ≤ before → moment < now → since moment image ↔ past moment image
  pub only : (moment : ℕ) (image : List ℕ) → before ≤ moment → moment ≤ now → since moment image → during image

-- a crash at any moment from `start` to `now` leaves an image that has P
pub record LeavesOnly (start now : ℕ) (crash : ℕ → List ℕ → Type 0) (P : List ℕ → Type 0) : Type 0 where
  pub later : start ≤ now
  pub each : (moment : ℕ) (image : List ℕ) → start ≤ moment → moment ≤ now → crash moment image → P image

-- before the first call
pub LeavesOnly-start : {now : ℕ} {crash : ℕ → List ℕ → Type 0} {P : List ℕ → Type 0} →
    ((image : List ℕ) → crash now image → P image) → LeavesOnly now now crash P
LeavesOnly-start {crash = crash} here = record {
  later = omega arith;
  each = λ moment image from to left. here image (subst (λ at. crash at image) (omega (arith, from, to)) left);
}

-- after one call more that leaves only what has P
pub LeavesOnly-elapsed : {start before now : ℕ} {past since : ℕ → List ℕ → Type 0} {during P : List ℕ → Type 0} →
    LeavesOnly start before past P → Elapsed before now past since during → ((image : List ℕ) → during image → P image) → LeavesOnly start now since P
LeavesOnly-elapsed {before = before} so_far time here = record {
  later = omega (arith, so_far.later, time.later);
  each = λ moment image from to left.
      ⊎_elim (λ below. so_far.each moment image from (omega (arith, below)) ((time.kept moment image (omega (arith, below)) (omega (arith, below, time.later))).0 left))
      (λ above. here image (time.only moment image above to left))
      (cases_lt moment before);
}

-- after one call more that changes nothing
pub LeavesOnly-unmoved : {start before now : ℕ} {past since : ℕ → List ℕ → Type 0} {P : List ℕ → Type 0} →
    LeavesOnly start before past P → Unmoved before now past since → LeavesOnly start now since P
LeavesOnly-unmoved so_far time = record {
  later = omega (arith, so_far.later, time.clock);
  each = λ moment image from to left.
      so_far.each moment image from (omega (arith, to, time.clock)) ((time.images moment image (omega (arith, to, time.clock))).0 left);
}
