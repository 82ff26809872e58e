-- What a crash may leave, place by place.
use Rattle.std.proofs.Common.{◌≡◌, ◌≢◌, ◌↔◌, ℕ, ◌+◌, ◌-◌, ◌<◌, ◌≤◌, ◌⊎◌, Bool, true, false, ◌||◌, ◌&&◌, not, cond, nat_lt, List, [], ◌∷◌, ◌++◌, zero, suc, length, take, drop, reverse, get_or, take-append-drop, arith, ap, ◌∙◌, sym, subst, refl, inl, inr, ⊎_elim}
use Rattle.std.specs.List.{list_any, list_all, prefix_len, suffix_len}
use Rattle.std.proofs.lemmas.Bool.{ltb-true, lt-ltb}
use Rattle.std.proofs.lemmas.Bool.Decides.{nat_tests}
use Rattle.std.proofs.lemmas.List.{length-append, length-reverse, reverse-append, reverse-reverse, take_at}
use Rattle.std.proofs.lemmas.List.Folds.{length-prefix_len}
use Rattle.aw_disk.specs.declared.step.Step.{Step}
use Rattle.aw_disk.specs.declared.step.Step.TheVariants.{Write, Sync}
use Rattle.aw_disk.specs.Covered.{is_write, reaches, writes_since, synced_count, synced_content, HoldsCovered, CrashesLeaveWhatIsCovered}
use Rattle.aw_disk.specs.Images.{overwritten, TornFrom}
use Rattle.aw_disk.specs.MemDisk.{content_after, LeftAfter, LeftAfter-content}
use Rattle.aw_disk.proofs.Picking.{reaches-outside, or-false_parts, covered-parts}
use Rattle.aw_disk.proofs.PickedImages.{LeftAfter-append, list_all-writes_since}
use Rattle.aw_disk.proofs.Steps.{content_after-sync, LeftAfter-sync}

-- the steps up to the last sync are none, or end in it
last_is_sync : (steps : List Step) → (drop (prefix_len is_write steps) steps ≡ []) ⊎ ((rest : List Step) × (drop (prefix_len is_write steps) steps ≡ Sync ∷ rest))
last_is_sync [] = inl refl
last_is_sync (Write offset bytes ∷ steps) =
    let one_more : suc (prefix_len is_write steps) ≡ 1 + prefix_len is_write steps = omega arith in
    subst (λ (n : ℕ). (drop n (Write offset bytes ∷ steps) ≡ []) ⊎ ((rest : List Step) × (drop n (Write offset bytes ∷ steps) ≡ Sync ∷ rest))) one_more (last_is_sync steps)
last_is_sync (Sync ∷ steps) = inr (steps, refl)

take-end : (front end steps : List Step) → steps ≡ front ++ end → take (length steps - length end) steps ≡ front
take-end front end steps is =
    let count : length steps - length end ≡ length front = omega (arith, ap length is, length-append front end) in
    ap (λ (n : ℕ). take n steps) count ∙ ap (λ (all : List Step). take (length front) all) is ∙ take_at front end (length front) refl

until-reverse : (steps : List Step) → take (synced_count steps) steps ≡ reverse (drop (suffix_len is_write steps) (reverse steps))
until-reverse steps =
    let count = suffix_len is_write steps in
    let long : length (reverse (take count (reverse steps))) ≡ count = length-reverse (take count (reverse steps)) ∙ length-prefix_len is_write (reverse steps) in
    ap (λ (n : ℕ). take (length steps - n) steps) (sym long)
    ∙ take-end (reverse (drop count (reverse steps))) (reverse (take count (reverse steps))) steps
    (sym (reverse-reverse steps) ∙ ap reverse (sym (take-append-drop count (reverse steps))) ∙ reverse-append (take count (reverse steps)) (drop count (reverse steps)))

-- after them the content is left and nothing else
left-until : (start : List ℕ) (steps : List Step) (image : List ℕ) → LeftAfter start (λ left. left ≡ start) (take (synced_count steps) steps) image → image ≡ synced_content start steps
left-until start steps image left = by (take (synced_count steps) steps) (until-reverse steps) left
  where
    by : (until : List Step) → until ≡ reverse (drop (suffix_len is_write steps) (reverse steps)) → LeftAfter start (λ old. old ≡ start) until image → image ≡ content_after start until
    by until is left = ⊎_elim
        (λ none.
        subst (λ (all : List Step). LeftAfter start (λ old. old ≡ start) all image → image ≡ content_after start all)
        (sym (is ∙ ap reverse none)) (λ old. old) left)
        (λ synced.
        subst (λ (all : List Step). LeftAfter start (λ old. old ≡ start) all image → image ≡ content_after start all)
        (sym (is ∙ ap reverse synced.1 ∙ reverse-append (Sync ∷ []) synced.0))
        (λ old. LeftAfter-sync start (λ first. first ≡ start) (reverse synced.0) image old ∙ sym (content_after-sync start (reverse synced.0))) left)
        (last_is_sync (reverse steps))

-- what a crash may leave after steps in two parts
LeftAfter-parts : (content : List ℕ) (images : List ℕ → Type 0) (before after : List Step) (image : List ℕ) → LeftAfter content images (before ++ after) image →
    LeftAfter (content_after content before) (LeftAfter content images before) after image
LeftAfter-parts content images [] after image left = left
LeftAfter-parts content images (Write offset bytes ∷ before) after image left =
    LeftAfter-parts (overwritten content offset bytes) (TornFrom offset (length bytes) images) before after image left
LeftAfter-parts content images (Sync ∷ before) after image left = LeftAfter-parts content (λ old. old ≡ content) before after image left

-- an image that has the bytes of an old one where no write reaches
record Keeps (old image : List ℕ) (writes : List Step) : Type 0 where
  no_shorter : length old ≤ length image
  free : (place : ℕ) → place < length old → list_any (reaches place) writes ≡ false → get_or image place 0 ≡ get_or old place 0

-- writes leave only such images
kept : (content : List ℕ) (images : List ℕ → Type 0) (writes : List Step) (image : List ℕ) → list_all is_write writes ≡ true → LeftAfter content images writes image →
    (old : List ℕ) × images old × Keeps old image writes
kept content images [] image only left = (image, left, record { no_shorter = omega arith; free = λ place within free. refl })
kept content images (Sync ∷ writes) image only left = cc
kept content images (Write offset bytes ∷ writes) image only left =
    let after = kept (overwritten content offset bytes) (TornFrom offset (length bytes) images) writes image only left in
    let from = after.1 in (
      from.old,
      from.was,
      record {
        no_shorter = omega (arith, from.torn.no_shorter, after.2.no_shorter);
        free = λ place within none.
            let both = or-false_parts (reaches place (Write offset bytes)) (list_any (reaches place) writes) none in
            after.2.free place (omega (arith, within, from.torn.no_shorter)) both.1
            ∙ from.torn.outside place within (reaches-outside place offset bytes both.0);
      },
    )

-- an old list with the elements of a new one at some places
abbrev mixed : (ℕ → Bool) → List ℕ → List ℕ → List ℕ
mixed test [] new = []
mixed test (x ∷ old) [] = x ∷ old
mixed test (x ∷ old) (y ∷ new) = cond (test 0) y x ∷ mixed (λ place. test (suc place)) old new

length-mixed : (test : ℕ → Bool) (old new : List ℕ) → length (mixed test old new) ≡ length old
length-mixed test [] new = refl
length-mixed test (x ∷ old) [] = refl
length-mixed test (x ∷ old) (y ∷ new) = ap suc (length-mixed (λ place. test (suc place)) old new)

mixed-at : (test : ℕ → Bool) (old new : List ℕ) (place : ℕ) → length old ≤ length new → place < length old →
    get_or (mixed test old new) place 0 ≡ cond (test place) (get_or new place 0) (get_or old place 0)
mixed-at test [] new place fits within = absurd (omega arith)
mixed-at test (x ∷ old) [] place fits within = absurd (omega arith)
mixed-at test (x ∷ old) (y ∷ new) zero fits within = refl
mixed-at test (x ∷ old) (y ∷ new) (suc place) fits within = mixed-at (λ at. test (suc at)) old new place (omega arith) (omega arith)

reaches-missed : (place offset : ℕ) (bytes : List ℕ) → (place < offset) ⊎ (offset + length bytes ≤ place) → reaches place (Write offset bytes) ≡ false
reaches-missed place offset bytes out = grind (arith, nat_tests)

-- writes may leave each such image
fill : (content : List ℕ) (images : List ℕ → Type 0) (step : Step) (writes : List Step) (old image : List ℕ) → list_all is_write (step ∷ writes) ≡ true →
    images old → Keeps old image (step ∷ writes) → LeftAfter content images (step ∷ writes) image
fill content images Sync writes old image only was keeps = cc
fill content images (Write offset bytes) [] old image only was keeps = record {
  old = old;
  was = was;
  torn = record {
    no_shorter = keeps.no_shorter;
    outside = λ place within out. keeps.free place within (ap (λ (reached : Bool). reached || false) (reaches-missed place offset bytes out));
  };
}
fill content images (Write offset bytes) (next ∷ writes) old image only was keeps =
    fill (overwritten content offset bytes) (TornFrom offset (length bytes) images) next writes (mixed reached old image) image only
    (record {
      old = old;
      was = was;
      torn = record {
        no_shorter = omega (arith, length-mixed reached old image);
        outside = λ place within out.
            mixed-at reached old image place keeps.no_shorter within
            ∙ ap (λ (b : Bool). cond b (get_or image place 0) (get_or old place 0)) (reaches-missed place offset bytes out);
      };
    })
    (record {
      no_shorter = omega (arith, length-mixed reached old image, keeps.no_shorter);
      free = λ place within none. by place (reached place) refl (omega (arith, within, length-mixed reached old image)) none;
    })
  where
    reached : ℕ → Bool
    reached place = reaches place (Write offset bytes)

    by : (place : ℕ) (hit : Bool) → reaches place (Write offset bytes) ≡ hit → place < length old → list_any (reaches place) (next ∷ writes) ≡ false →
        get_or image place 0 ≡ get_or (mixed (λ at. reaches at (Write offset bytes)) old image) place 0
    by place true is within none =
        sym (mixed-at (λ at. reaches at (Write offset bytes)) old image place keeps.no_shorter within
        ∙ ap (λ (b : Bool). cond b (get_or image place 0) (get_or old place 0)) is)
    by place false is within none =
        keeps.free place within (ap (λ (b : Bool). b || list_any (reaches place) (next ∷ writes)) is ∙ none)
        ∙ sym (mixed-at (λ at. reaches at (Write offset bytes)) old image place keeps.no_shorter within
        ∙ ap (λ (b : Bool). cond b (get_or image place 0) (get_or old place 0)) is)

-- the same of any writes, where there are some
fill_any : (content : List ℕ) (images : List ℕ → Type 0) (writes : List Step) (old image : List ℕ) → writes ≢ [] → list_all is_write writes ≡ true →
    images old → Keeps old image writes → LeftAfter content images writes image
fill_any content images [] old image some only was keeps = absurd (some refl)
fill_any content images (step ∷ writes) old image some only was keeps = fill content images step writes old image only was keeps

Keeps-covered : (start : List ℕ) (steps : List Step) (image : List ℕ) → Keeps (synced_content start steps) image (writes_since steps) → HoldsCovered start steps image
Keeps-covered start steps image keeps = record {
  no_shorter = keeps.no_shorter;
  covered = λ place is.
      let parts = covered-parts (nat_lt place (length (synced_content start steps))) (list_any (reaches place) (writes_since steps)) is in
      keeps.free place (ltb-true place (length (synced_content start steps)) parts.0) parts.1;
}

covered-from : (within reached : Bool) → within ≡ true → reached ≡ false → (within && not reached) ≡ true
covered-from within reached low free = rw (low, free) refl

covered-Keeps : (start : List ℕ) (steps : List Step) (image : List ℕ) → HoldsCovered start steps image → Keeps (synced_content start steps) image (writes_since steps)
covered-Keeps start steps image holds = record {
  no_shorter = holds.no_shorter;
  free = λ place within none.
      holds.covered place (covered-from (nat_lt place (length (synced_content start steps))) (list_any (reaches place) (writes_since steps))
      (lt-ltb place (length (synced_content start steps)) within) none);
}

-- at each moment
module _ (start : List ℕ) (steps : List Step) (image : List ℕ) where
  abbrev Until : List ℕ → Type 0
  Until = LeftAfter start (λ left. left ≡ start) (take (synced_count steps) steps)

  parts : LeftAfter start (λ left. left ≡ start) steps image → LeftAfter (synced_content start steps) Until (writes_since steps) image
  parts left =
      LeftAfter-parts start (λ old. old ≡ start) (take (synced_count steps) steps) (writes_since steps) image
      (subst (λ (all : List Step). LeftAfter start (λ old. old ≡ start) all image) (sym (take-append-drop (synced_count steps) steps)) left)

  joined : LeftAfter (synced_content start steps) Until (writes_since steps) image → LeftAfter start (λ left. left ≡ start) steps image
  joined left =
      subst (λ (all : List Step). LeftAfter start (λ old. old ≡ start) all image) (take-append-drop (synced_count steps) steps)
      (LeftAfter-append start (λ old. old ≡ start) (take (synced_count steps) steps) (writes_since steps) image left)

  synced-left : Until (synced_content start steps)
  synced-left = LeftAfter-content start (λ old. old ≡ start) (take (synced_count steps) steps) refl

  settled : writes_since steps ≡ [] → LeftAfter start (λ left. left ≡ start) steps image ↔ (image ≡ synced_content start steps)
  settled none = (
    λ left. left-until start steps image
        (subst (λ (since : List Step). LeftAfter (synced_content start steps) Until since image) none (parts left)),
    λ same. joined
        (subst (λ (since : List Step). LeftAfter (synced_content start steps) Until since image) (sym none)
        (subst (λ (left : List ℕ). Until left) (sym same) synced-left)),
  )

  unsettled : writes_since steps ≢ [] → LeftAfter start (λ left. left ≡ start) steps image ↔ HoldsCovered start steps image
  unsettled some = (
    λ left.
        let from = kept (synced_content start steps) Until (writes_since steps) image (list_all-writes_since steps) (parts left) in
        Keeps-covered start steps image
        (subst (λ (old : List ℕ). Keeps old image (writes_since steps)) (left-until start steps from.0 from.1) from.2),
    λ holds. joined
        (fill_any (synced_content start steps) Until (writes_since steps) (synced_content start steps) image some (list_all-writes_since steps) synced-left
        (covered-Keeps start steps image holds)),
  )

pub leave_what_is_covered : CrashesLeaveWhatIsCovered
leave_what_is_covered disk moment = record {
  settled = λ image none. settled disk.start (take moment disk.steps) image none;
  unsettled = λ image some. unsettled disk.start (take moment disk.steps) image some;
}
