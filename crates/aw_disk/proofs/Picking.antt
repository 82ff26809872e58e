-- Images with picked bytes, place by place.
use Rattle.std.proofs.Common.{◌≡◌, ℕ, ◌+◌, ◌-◌, ◌<◌, ◌≤◌, ◌⊎◌, Bool, true, false, ◌&&◌, ◌||◌, not, nat_le, nat_lt, List, [], ◌∷◌, ◌++◌, length, take, replicate, get_or, append_assoc, take-append-drop, arith, ap, ◌∙◌, sym, subst, refl, inl, inr, ⊎_elim}
use Rattle.std.specs.List.{list_any, list_all}
use Rattle.std.proofs.Math.Bool.{or-false}
use Rattle.std.proofs.lemmas.Bool.{cases_lt, and_parts, ltb-true, ltb-false, leb-true}
use Rattle.std.proofs.lemmas.Bool.Decides.{nat_tests}
use Rattle.std.proofs.lemmas.Grind.{common_steps}
use Rattle.std.proofs.lemmas.List.{append-nil, get_or_append_left, get_or-append_right, get_or-replicate, length-replicate}
use Rattle.std.proofs.lemmas.List.Folds.{list_any-append}
use Rattle.aw_disk.specs.declared.step.Step.{Step}
use Rattle.aw_disk.specs.declared.step.Step.TheVariants.{Write, Sync}
use Rattle.aw_disk.specs.declared.step.Pick.{Pick}
use Rattle.aw_disk.specs.declared.step.Pick.TheVariants.{Kept, Old, Fill}
use Rattle.aw_disk.specs.inside.MemDiskSteps.{all_begin_inside}
use Rattle.aw_disk.specs.Images.{overwritten, Torn-overwritten}
use Rattle.aw_disk.specs.MemDisk.{content_after, LeftAfter, LeftAfter-content}
use Rattle.aw_disk.specs.Covered.{is_write, reaches, writes_since, synced_count, synced_content}
use Rattle.aw_disk.specs.Picked.{picked_byte, IsPicked}
use Rattle.aw_disk.specs.inside.PickedImages.{picked, left_by}
use Rattle.aw_disk.proofs.PickedImages.{picked-torn, left_by-left, left_by-kept, content_after-append, LeftAfter-append, all_begin_inside-append, list_all-writes_since}

-- an image after writes since a sync, and the content
pub record Picks (pick : Pick) (synced : List ℕ) (since : List Step) (content image : List ℕ) : Type 0 where
  pub long : length image ≡ length content
  pub grown : length synced ≤ length content
  pub untouched : (place : ℕ) → place < length synced → list_any (reaches place) since ≡ false → get_or content place 0 ≡ get_or synced place 0
  pub covered : (place : ℕ) → place < length synced → list_any (reaches place) since ≡ false → get_or image place 0 ≡ get_or synced place 0
  pub other : (place : ℕ) → place < length image → (length synced ≤ place) ⊎ (list_any (reaches place) since ≡ true) → get_or image place 0 ≡ picked_byte pick content synced place

-- right after the sync
pub Picks-start : (pick : Pick) (synced : List ℕ) → Picks pick synced [] synced synced
Picks-start pick synced = record {
  long = refl;
  grown = omega arith;
  untouched = λ place within free. refl;
  covered = λ place within free. refl;
  other = λ place within out. ⊎_elim (λ past. absurd (omega arith)) (λ reached. cc) out;
}

-- a place in the range of a write, and one outside of it
reaches-inside : (place offset : ℕ) (bytes : List ℕ) → reaches place (Write offset bytes) ≡ true → (offset ≤ place) × (place < offset + length bytes)
reaches-inside place offset bytes reached = (grind (arith, nat_tests), grind (arith, nat_tests))

pub reaches-outside : (place offset : ℕ) (bytes : List ℕ) → reaches place (Write offset bytes) ≡ false → (place < offset) ⊎ (offset + length bytes ≤ place)
reaches-outside place offset bytes missed = grind (arith, nat_tests)

length-overwritten : (old : List ℕ) (offset : ℕ) (bytes : List ℕ) → offset ≤ length old → length (overwritten old offset bytes) ≡ length old + (offset + length bytes - length old)
length-overwritten old offset bytes inside = grind (arith, common_steps)

length-picked : (pick : Pick) (image : List ℕ) (offset : ℕ) (bytes : List ℕ) → offset ≤ length image → length (picked pick image offset bytes) ≡ length image + (offset + length bytes - length image)
length-picked Kept image offset bytes inside = length-overwritten image offset bytes inside
length-picked Old image offset bytes inside = grind (arith, common_steps)
length-picked (Fill byte) image offset bytes inside =
    length-overwritten image offset (replicate (length bytes) byte) inside ∙ ap (λ n. length image + (offset + n - length image)) (length-replicate (length bytes) byte)

-- the byte that a write put at a place
overwritten-inside : (old : List ℕ) (offset : ℕ) (bytes : List ℕ) (place : ℕ) → offset ≤ length old → offset ≤ place → place < offset + length bytes →
    get_or (overwritten old offset bytes) place 0 ≡ get_or bytes (place - offset) 0
overwritten-inside old offset bytes place inside from to = grind (arith, common_steps)

-- a place past the end of the bytes has the byte 0
past-end : (bytes : List ℕ) (place : ℕ) → length bytes ≤ place → get_or bytes place 0 ≡ 0
past-end bytes place past = grind (arith, common_steps)

-- the image before a write has the byte of the last sync at each place, where this one is picked
synced_byte : (synced : List ℕ) (since : List Step) (content image : List ℕ) (place : ℕ) → Picks Old synced since content image → place < length image →
    get_or image place 0 ≡ get_or synced place 0
synced_byte synced since content image place so_far within = ⊎_elim
    (λ below. by (list_any (reaches place) since) refl below)
    (λ past. so_far.other place within (inl past))
    (cases_lt place (length synced))
  where
    by : (reached : Bool) → list_any (reaches place) since ≡ reached → place < length synced → get_or image place 0 ≡ get_or synced place 0
    by true is below = so_far.other place within (inr is)
    by false is below = so_far.covered place below is

-- the picked byte in the range of a write
inside : (pick : Pick) (synced : List ℕ) (since : List Step) (content image : List ℕ) (offset : ℕ) (bytes : List ℕ) (place : ℕ) → offset ≤ length content →
    Picks pick synced since content image → offset ≤ place → place < offset + length bytes →
    get_or (picked pick image offset bytes) place 0 ≡ picked_byte pick (overwritten content offset bytes) synced place
inside Kept synced since content image offset bytes place begins so_far from to =
    overwritten-inside image offset bytes place (omega (arith, so_far.long)) from to
    ∙ sym (overwritten-inside content offset bytes place begins from to)
inside (Fill byte) synced since content image offset bytes place begins so_far from to =
    let range : place < offset + length (replicate (length bytes) byte) = omega (arith, length-replicate (length bytes) byte) in
    overwritten-inside image offset (replicate (length bytes) byte) place (omega (arith, so_far.long)) from range
    ∙ get_or-replicate (length bytes) (place - offset) byte 0 (omega arith)
inside Old synced since content image offset bytes place begins so_far from to = ⊎_elim
    (λ within. get_or_append_left image zeros 0 place within ∙ synced_byte synced since content image place so_far within)
    (λ past. get_or-append_right image zeros (length image) place 0 refl past
    ∙ get_or-replicate (offset + length bytes - length image) (place - length image) 0 0 (omega arith)
    ∙ sym (past-end synced place (omega (arith, so_far.long, so_far.grown))))
    (cases_lt place (length image))
  where
    zeros : List ℕ
    zeros = replicate (offset + length bytes - length image) 0

-- the picked byte stays out of the range of a write
picked_byte-outside : (pick : Pick) (synced content : List ℕ) (offset : ℕ) (bytes : List ℕ) (place : ℕ) → place < length content →
    (place < offset) ⊎ (offset + length bytes ≤ place) → picked_byte pick content synced place ≡ picked_byte pick (overwritten content offset bytes) synced place
picked_byte-outside Kept synced content offset bytes place within out = sym ((Torn-overwritten content offset bytes).outside place within out)
picked_byte-outside Old synced content offset bytes place within out = refl
picked_byte-outside (Fill byte) synced content offset bytes place within out = refl

pub or-false_parts : (a b : Bool) → (a || b) ≡ false → (a ≡ false) × (b ≡ false)
or-false_parts false false none = (refl, refl)
or-false_parts false true none = cc
or-false_parts true b none = cc

or-left_part : (a b : Bool) → (a || b) ≡ true → b ≡ false → a ≡ true
or-left_part true b either miss = refl
or-left_part false b either miss = cc

-- one write more reaches a place or not
reached-push : (place : ℕ) (since : List Step) (step : Step) → list_any (reaches place) (since ++ step ∷ []) ≡ (list_any (reaches place) since || reaches place step)
reached-push place since step = list_any-append (reaches place) since (step ∷ []) ∙ ap (λ b. list_any (reaches place) since || b) (or-false (reaches place step))

-- after one write more
module _ (pick : Pick) (synced : List ℕ) (since : List Step) (content image : List ℕ) (offset : ℕ) (bytes : List ℕ)
    (begins : offset ≤ length content) (so_far : Picks pick synced since content image) where
  free : (place : ℕ) → list_any (reaches place) (since ++ Write offset bytes ∷ []) ≡ false →
      (list_any (reaches place) since ≡ false) × ((place < offset) ⊎ (offset + length bytes ≤ place))
  free place none =
      let both = or-false_parts (list_any (reaches place) since) (reaches place (Write offset bytes)) (sym (reached-push place since (Write offset bytes)) ∙ none) in
      (both.0, reaches-outside place offset bytes both.1)

  other-at : (place : ℕ) (hit : Bool) → reaches place (Write offset bytes) ≡ hit → place < length (picked pick image offset bytes) →
      (length synced ≤ place) ⊎ (list_any (reaches place) (since ++ Write offset bytes ∷ []) ≡ true) →
      get_or (picked pick image offset bytes) place 0 ≡ picked_byte pick (overwritten content offset bytes) synced place
  other-at place true hit within out =
      let range = reaches-inside place offset bytes hit in
      inside pick synced since content image offset bytes place begins so_far range.0 range.1
  other-at place false miss within out =
      let outside = reaches-outside place offset bytes miss in
      let length_is = length-picked pick image offset bytes (omega (arith, so_far.long)) in
      let inside_image : place < length image = ⊎_elim (λ low. omega (arith, low, so_far.long)) (λ high. omega (arith, high, so_far.long, length_is, within)) outside in
      let before : (length synced ≤ place) ⊎ (list_any (reaches place) since ≡ true) =
      ⊎_elim (λ past. inl past) (λ reached. inr (or-left_part (list_any (reaches place) since) (reaches place (Write offset bytes)) (sym (reached-push place since (Write offset bytes)) ∙ reached) miss)) out in
      (picked-torn pick image offset bytes).outside place inside_image outside
      ∙ so_far.other place inside_image before
      ∙ picked_byte-outside pick synced content offset bytes place (omega (arith, so_far.long)) outside

  pub Picks-write : Picks pick synced (since ++ Write offset bytes ∷ []) (overwritten content offset bytes) (picked pick image offset bytes)
  Picks-write = record {
    long = length-picked pick image offset bytes (omega (arith, so_far.long))
        ∙ ap (λ n. n + (offset + length bytes - n)) so_far.long
        ∙ sym (length-overwritten content offset bytes begins);
    grown = omega (arith, so_far.grown, (Torn-overwritten content offset bytes).no_shorter);
    untouched = λ place within none.
        (Torn-overwritten content offset bytes).outside place (omega (arith, so_far.grown)) (free place none).1
        ∙ so_far.untouched place within (free place none).0;
    covered = λ place within none.
        (picked-torn pick image offset bytes).outside place (omega (arith, so_far.grown, so_far.long)) (free place none).1
        ∙ so_far.covered place within (free place none).0;
    other = λ place within out. other-at place (reaches place (Write offset bytes)) refl within out;
  }

-- after all writes since the sync
pub Picks-all : (pick : Pick) (synced : List ℕ) (done rest : List Step) (content image : List ℕ) → list_all is_write rest ≡ true → all_begin_inside content rest ≡ true →
    Picks pick synced done content image → Picks pick synced (done ++ rest) (content_after content rest) (left_by pick image rest)
Picks-all pick synced done [] content image writes begin so_far = rw append-nil so_far
Picks-all pick synced done (Write offset bytes ∷ rest) content image writes begin so_far =
    let both = and_parts (nat_le offset (length content)) (all_begin_inside (overwritten content offset bytes) rest) begin in
    let next = Picks-write pick synced done content image offset bytes (leb-true offset (length content) both.0) so_far in
    subst (λ (since : List Step). Picks pick synced since (content_after (overwritten content offset bytes) rest) (left_by pick (picked pick image offset bytes) rest))
    (append_assoc done (Write offset bytes ∷ []) rest)
    (Picks-all pick synced (done ++ Write offset bytes ∷ []) rest (overwritten content offset bytes) (picked pick image offset bytes) writes both.1 next)
Picks-all pick synced done (Sync ∷ rest) content image writes begin so_far = cc

-- whether the last sync covers a place, by whether it had the byte and whether a write since reached it
pub covered-parts : (within reached : Bool) → (within && not reached) ≡ true → (within ≡ true) × (reached ≡ false)
covered-parts true false is = (refl, refl)
covered-parts true true is = cc
covered-parts false reached is = cc

pub other-parts : (within reached : Bool) → (within && not reached) ≡ false → (within ≡ false) ⊎ (reached ≡ true)
other-parts true false is = cc
other-parts true true is = inr refl
other-parts false reached is = inl refl

-- the byte at a place by whether the last sync covers it
module _ (pick : Pick) (start : List ℕ) (steps : List Step) (image : List ℕ)
    (all : Picks pick (synced_content start steps) (writes_since steps) (content_after start steps) image) where
  pub IsPicked-from : IsPicked pick start steps image
  IsPicked-from = record {
    long = all.long;
    covered = λ place is.
        let parts = covered-parts (nat_lt place (length (synced_content start steps))) (list_any (reaches place) (writes_since steps)) is in
        let within = ltb-true place (length (synced_content start steps)) parts.0 in
        all.covered place within parts.1 ∙ sym (all.untouched place within parts.1);
    other = λ place within is.
        all.other place within (⊎_elim (λ past. inl (ltb-false place (length (synced_content start steps)) past)) (λ reached. inr reached)
        (other-parts (nat_lt place (length (synced_content start steps))) (list_any (reaches place) (writes_since steps)) is));
  }

-- the image that the writes up to the last sync and those since leave
abbrev pub made : Pick → List ℕ → List Step → List ℕ
made pick start steps = left_by pick (left_by Kept start (take (synced_count steps) steps)) (writes_since steps)

module _ (pick : Pick) (start : List ℕ) (steps : List Step) where
  from_synced : made pick start steps ≡ left_by pick (synced_content start steps) (writes_since steps)
  from_synced = ap (λ (image : List ℕ). left_by pick image (writes_since steps)) (left_by-kept start (take (synced_count steps) steps))

  whole : content_after (synced_content start steps) (writes_since steps) ≡ content_after start steps
  whole = sym (content_after-append start (take (synced_count steps) steps) (writes_since steps))
      ∙ ap (λ (all : List Step). content_after start all) (take-append-drop (synced_count steps) steps)

  begin_since : all_begin_inside start steps ≡ true → all_begin_inside (synced_content start steps) (writes_since steps) ≡ true
  begin_since begin =
      let parts = sym (all_begin_inside-append start (take (synced_count steps) steps) (writes_since steps))
      ∙ ap (λ (all : List Step). all_begin_inside start all) (take-append-drop (synced_count steps) steps) ∙ begin in
      (and_parts (all_begin_inside start (take (synced_count steps) steps)) (all_begin_inside (synced_content start steps) (writes_since steps)) parts).1

  pub IsPicked-made : all_begin_inside start steps ≡ true → IsPicked pick start steps (made pick start steps)
  IsPicked-made begin =
      let all = Picks-all pick (synced_content start steps) [] (writes_since steps) (synced_content start steps) (synced_content start steps)
      (list_all-writes_since steps) (begin_since begin) (Picks-start pick (synced_content start steps)) in
      let of_image = subst (λ (image : List ℕ). Picks pick (synced_content start steps) (writes_since steps) (content_after (synced_content start steps) (writes_since steps)) image) (sym from_synced) all in
      IsPicked-from pick start steps (made pick start steps)
      (subst (λ (content : List ℕ). Picks pick (synced_content start steps) (writes_since steps) content (made pick start steps)) whole of_image)

  pub made-left : LeftAfter start (λ left. left ≡ start) steps (made pick start steps)
  made-left =
      let synced = LeftAfter-content start (λ left. left ≡ start) (take (synced_count steps) steps) refl in
      let here = left_by-left pick (synced_content start steps) (synced_content start steps) (LeftAfter start (λ left. left ≡ start) (take (synced_count steps) steps)) (writes_since steps) (list_all-writes_since steps) synced in
      let both = LeftAfter-append start (λ left. left ≡ start) (take (synced_count steps) steps) (writes_since steps) _ here in
      subst (λ (image : List ℕ). LeftAfter start (λ left. left ≡ start) steps image) (sym from_synced)
      (subst (λ (all : List Step). LeftAfter start (λ left. left ≡ start) all (left_by pick (synced_content start steps) (writes_since steps))) (take-append-drop (synced_count steps) steps) both)
