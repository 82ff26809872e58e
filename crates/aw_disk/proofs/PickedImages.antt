-- Images with picked bytes: steps in two parts, and what they leave.
use Rattle.std.proofs.Common.{◌≡◌, ℕ, ◌+◌, ◌-◌, ◌≤◌, Bool, true, ◌&&◌, nat_le, List, [], ◌∷◌, ◌++◌, length, take, drop, take-append-drop, reverse, replicate, arith, ap, ◌∙◌, sym, subst, refl}
use Rattle.std.specs.List.{list_all, take_while, suffix_len}
use Rattle.std.proofs.lemmas.Bool.{and_parts, le-leb}
use Rattle.std.proofs.Math.Bool.{and_assoc}
use Rattle.std.proofs.lemmas.List.{length-replicate, length-reverse, reverse-append, reverse-reverse, drop_at, length-append}
use Rattle.std.proofs.lemmas.List.Folds.{list_all-append, length-prefix_len}
use Rattle.std.proofs.lemmas.List.Sums.{take_while-cons}
use Rattle.aw_disk.specs.declared.step.Step.{Step}
use Rattle.aw_disk.specs.declared.step.Step.TheVariants.{Write, Sync}
use Rattle.aw_disk.specs.declared.step.Pick.{Pick}
use Rattle.aw_disk.specs.declared.step.Pick.TheVariants.{Kept, Old, Fill}
use Rattle.aw_disk.specs.inside.MemDiskSteps.{all_begin_inside}
use Rattle.aw_disk.specs.Images.{overwritten, Torn, TornFrom, Torn-overwritten, Torn-longer}
use Rattle.aw_disk.specs.MemDisk.{content_after, LeftAfter}
use Rattle.aw_disk.specs.Covered.{is_write, writes_since}
use Rattle.aw_disk.specs.inside.PickedImages.{picked, left_by}

-- the content after steps in two parts
pub content_after-append : (content : List ℕ) (before after : List Step) → content_after content (before ++ after) ≡ content_after (content_after content before) after
content_after-append content [] after = refl
content_after-append content (Write offset bytes ∷ before) after = content_after-append (overwritten content offset bytes) before after
content_after-append content (Sync ∷ before) after = content_after-append content before after

-- what a crash may leave after steps in two parts
pub LeftAfter-append : (content : List ℕ) (images : List ℕ → Type 0) (before after : List Step) (image : List ℕ) →
    LeftAfter (content_after content before) (LeftAfter content images before) after image → LeftAfter content images (before ++ after) image
LeftAfter-append content images [] after image left = left
LeftAfter-append content images (Write offset bytes ∷ before) after image left =
    LeftAfter-append (overwritten content offset bytes) (TornFrom offset (length bytes) images) before after image left
LeftAfter-append content images (Sync ∷ before) after image left = LeftAfter-append content (λ old. old ≡ content) before after image left

-- writes that begin inside the content, in two parts
pub all_begin_inside-append : (content : List ℕ) (before after : List Step) →
    all_begin_inside content (before ++ after) ≡ (all_begin_inside content before && all_begin_inside (content_after content before) after)
all_begin_inside-append content [] after = refl
all_begin_inside-append content (Write offset bytes ∷ before) after =
    ap (λ (rest : Bool). nat_le offset (length content) && rest) (all_begin_inside-append (overwritten content offset bytes) before after)
    ∙ sym (and_assoc (nat_le offset (length content)) (all_begin_inside (overwritten content offset bytes) before) (all_begin_inside (content_after (overwritten content offset bytes) before) after))
all_begin_inside-append content (Sync ∷ before) after = all_begin_inside-append content before after

-- the picked bytes are what a write may leave
pub picked-torn : (pick : Pick) (image : List ℕ) (offset : ℕ) (bytes : List ℕ) → Torn offset (length bytes) image (picked pick image offset bytes)
picked-torn Kept image offset bytes = Torn-overwritten image offset bytes
picked-torn Old image offset bytes = Torn-longer offset (length bytes) image (replicate (offset + length bytes - length image) 0)
picked-torn (Fill byte) image offset bytes =
    subst (λ count. Torn offset count image (overwritten image offset (replicate (length bytes) byte))) (length-replicate (length bytes) byte)
    (Torn-overwritten image offset (replicate (length bytes) byte))

-- writes with picked bytes leave what a crash may leave
pub left_by-left : (pick : Pick) (content image : List ℕ) (images : List ℕ → Type 0) (steps : List Step) → list_all is_write steps ≡ true → images image →
    LeftAfter content images steps (left_by pick image steps)
left_by-left pick content image images [] writes left = left
left_by-left pick content image images (Write offset bytes ∷ steps) writes left =
    left_by-left pick (overwritten content offset bytes) (picked pick image offset bytes) (TornFrom offset (length bytes) images) steps writes
    (record { old = image; was = left; torn = picked-torn pick image offset bytes })
left_by-left pick content image images (Sync ∷ steps) writes left = cc

-- the bytes written last are the content
pub left_by-kept : (content : List ℕ) (steps : List Step) → left_by Kept content steps ≡ content_after content steps
left_by-kept content [] = refl
left_by-kept content (Write offset bytes ∷ steps) = left_by-kept (overwritten content offset bytes) steps
left_by-kept content (Sync ∷ steps) = left_by-kept content steps

-- the steps at the end that are writes
list_all-take_while : (steps : List Step) → list_all is_write (take_while is_write steps) ≡ true
list_all-take_while [] = refl
list_all-take_while (Write offset bytes ∷ steps) = rw take_while-cons (list_all-take_while steps)
list_all-take_while (Sync ∷ steps) = refl

all_true : (earlier one : Bool) → earlier ≡ true → one ≡ true → (earlier && (one && true)) ≡ true
all_true earlier one first last = rw (first, last) refl

list_all-reverse : (steps : List Step) → list_all is_write steps ≡ true → list_all is_write (reverse steps) ≡ true
list_all-reverse [] all = refl
list_all-reverse (step ∷ steps) all =
    let both = and_parts (is_write step) (list_all is_write steps) all in
    ap (λ (all : List Step). list_all is_write all) (reverse-append (step ∷ []) steps)
    ∙ list_all-append is_write (reverse steps) (step ∷ [])
    ∙ all_true (list_all is_write (reverse steps)) (is_write step) (list_all-reverse steps both.1) both.0

drop-end : (front end steps : List Step) → steps ≡ front ++ end → drop (length steps - length end) steps ≡ end
drop-end front end steps is =
    let count : length steps - length end ≡ length front = omega (arith, ap length is, length-append front end) in
    ap (λ (n : ℕ). drop n steps) count ∙ ap (λ (all : List Step). drop (length front) all) is ∙ drop_at front end (length front) refl

-- the writes since the last sync, counted from the end
writes_since-reverse : (steps : List Step) → writes_since steps ≡ reverse (take_while is_write (reverse steps))
writes_since-reverse steps =
    let count = suffix_len is_write steps in
    let long : length (reverse (take count (reverse steps))) ≡ count = length-reverse (take count (reverse steps)) ∙ length-prefix_len is_write (reverse steps) in
    ap (λ (n : ℕ). drop (length steps - n) steps) (sym long)
    ∙ drop-end (reverse (drop count (reverse steps))) (reverse (take count (reverse steps))) steps
    (sym (reverse-reverse steps) ∙ ap reverse (sym (take-append-drop count (reverse steps))) ∙ reverse-append (take count (reverse steps)) (drop count (reverse steps)))

-- they are writes
pub list_all-writes_since : (steps : List Step) → list_all is_write (writes_since steps) ≡ true
list_all-writes_since steps =
    ap (λ (since : List Step). list_all is_write since) (writes_since-reverse steps)
    ∙ list_all-reverse (take_while is_write (reverse steps)) (list_all-take_while (reverse steps))

-- one write more that begins inside the content
pub all_begin_inside-write : (start : List ℕ) (steps : List Step) (offset : ℕ) (bytes : List ℕ) → all_begin_inside start steps ≡ true → offset ≤ length (content_after start steps) →
    all_begin_inside start (steps ++ Write offset bytes ∷ []) ≡ true
all_begin_inside-write start steps offset bytes begin inside =
    all_begin_inside-append start steps (Write offset bytes ∷ [])
    ∙ all_true (all_begin_inside start steps) (nat_le offset (length (content_after start steps))) begin (le-leb offset (length (content_after start steps)) inside)

-- one sync more
pub all_begin_inside-sync : (start : List ℕ) (steps : List Step) → all_begin_inside start steps ≡ true → all_begin_inside start (steps ++ Sync ∷ []) ≡ true
all_begin_inside-sync start steps begin = all_begin_inside-append start steps (Sync ∷ []) ∙ ap (λ (all : Bool). all && true) begin
