-- Time over a call of several steps. Moments before the call keep their images. A crash at a moment
-- from the call's start to its end leaves one of `during`.
use Rattle.std.specs.Prelude.{ℕ, ◌<◌, ◌≤◌, ◌↔◌, List}
use Rattle.std.proofs.Common.{arith, subst, ⊎_elim}
use Rattle.std.proofs.lemmas.Bool.{cases_lt}
use Rattle.aw_disk.specs.Moments.{Unmoved, Elapsed, LeavesOnly}

pub record Passed (before now : ℕ) (past since : ℕ → List ℕ → Type 0) (during : List ℕ → Type 0) : Type 0 where
  pub later : before ≤ now
  pub kept : (moment : ℕ) (image : List ℕ) → moment < before → since moment image ↔ past moment image
  pub only : (moment : ℕ) (image : List ℕ) → before ≤ moment → moment ≤ now → since moment image → during image

-- a call of one step
pub Passed-elapsed : {before now : ℕ} {past since : ℕ → List ℕ → Type 0} {during P : List ℕ → Type 0} →
    Elapsed before now past since during → ((image : List ℕ) → during image → P image) → Passed before now past since P
Passed-elapsed time here = record {
  later = time.later;
  kept = λ moment image below. time.kept moment image (omega (arith, below)) (omega (arith, below, time.later));
  only = λ moment image from to left. here image (time.only moment image from to left);
}

-- the same, of more images
pub Passed-wider : {before now : ℕ} {past since : ℕ → List ℕ → Type 0} {during P : List ℕ → Type 0} →
    Passed before now past since during → ((image : List ℕ) → during image → P image) → Passed before now past since P
Passed-wider passed here = record {
  later = passed.later;
  kept = passed.kept;
  only = λ moment image from to left. here image (passed.only moment image from to left);
}

-- no step
pub Passed-none : {now : ℕ} {crash : ℕ → List ℕ → Type 0} {P : List ℕ → Type 0} →
    ((image : List ℕ) → crash now image → P image) → Passed now now crash crash P
Passed-none {crash = crash} here = record {
  later = omega arith;
  kept = λ moment image below. (λ left. left, λ left. left);
  only = λ moment image from to left. here image (subst (λ at. crash at image) (omega (arith, from, to)) left);
}

-- one step more
pub Passed-then : {before middle now : ℕ} {past since then : ℕ → List ℕ → Type 0} {during later P : List ℕ → Type 0} →
    Passed before middle past since during → Passed middle now since then later → ((image : List ℕ) → during image → P image) →
    ((image : List ℕ) → later image → P image) → Passed before now past then P
Passed-then {middle = middle} first second here there = record {
  later = omega (arith, first.later, second.later);
  kept = λ moment image below. (
    λ left. (first.kept moment image below).0 ((second.kept moment image (omega (arith, below, first.later))).0 left),
    λ left. (second.kept moment image (omega (arith, below, first.later))).1 ((first.kept moment image below).1 left),
  );
  only = λ moment image from to left.
      ⊎_elim (λ below. here image (first.only moment image from (omega (arith, below)) ((second.kept moment image below).0 left)))
      (λ above. there image (second.only moment image above to left))
      (cases_lt moment middle);
}

-- a step more that changes nothing
pub Passed-unmoved : {before middle now : ℕ} {past since then : ℕ → List ℕ → Type 0} {P : List ℕ → Type 0} →
    Passed before middle past since P → Unmoved middle now since then → Passed before now past then P
Passed-unmoved first second = record {
  later = omega (arith, first.later, second.clock);
  kept = λ moment image below. (
    λ left. (first.kept moment image below).0 ((second.images moment image (omega (arith, below, first.later))).0 left),
    λ left. (second.images moment image (omega (arith, below, first.later))).1 ((first.kept moment image below).1 left),
  );
  only = λ moment image from to left.
      first.only moment image from (omega (arith, to, second.clock)) ((second.images moment image (omega (arith, to, second.clock))).0 left);
}

-- for a run that began earlier
pub LeavesOnly-passed : {start before now : ℕ} {past since : ℕ → List ℕ → Type 0} {during P : List ℕ → Type 0} →
    LeavesOnly start before past P → Passed before now past since during → ((image : List ℕ) → during image → P image) → LeavesOnly start now since P
LeavesOnly-passed {before = before} so_far time here = record {
  later = omega (arith, so_far.later, time.later);
  each = λ moment image from to left.
      ⊎_elim (λ below. so_far.each moment image from (omega (arith, below)) ((time.kept moment image below).0 left))
      (λ above. here image (time.only moment image above to left))
      (cases_lt moment before);
}
