-- What blocks an entry, as a fact on the objects: P of each refusal under its facts gives P of the one that comes.
use Rattle.std.specs.Prelude.{◌≡◌, ◌≢◌, ◌<◌, ◌≤◌, ◌⊎◌, ◌&&◌, ℕ, ◌+◌, ◌==◌, ◌++◌, Bool, true, false, not, cond, Contains, List, [], ◌∷◌, find, Option, Some, None, MatchOption, ⊤, nat_lt, nat_le, refl, if◌then◌else◌}
use Rattle.std.specs.Option.{option_or, option_map}
use Rattle.std.proofs.Common.{◌∙◌, sym, ap, subst, arith, inl, inr, ltb-true, leb-false, append_assoc}
use Rattle.std.proofs.lemmas.Bool.{eqb-false}
use Rattle.std.proofs.lemmas.List.Elements.{Contains-append_left, Contains-append_right}
use Rattle.aw_schema.specs.declared.definition.Def.{Def}
use Rattle.aw_body.specs.declared.body.Body.{Body}
use Rattle.aw_body.specs.declared.change.Change.{Change}
use Rattle.aw_body.specs.declared.change.Seen.{Seen}
use Rattle.mv_core.specs.declared.entry.Reply.{Reply}
use Rattle.mv_core.specs.declared.entry.Reply.TheVariants.{Owned, Newer, Stranger, Worn}
use Rattle.mv_core.specs.declared.object.Object.{Object}
use Rattle.mv_core.specs.Lookups.{kept_at, is_own}
use Rattle.mv_core.specs.Refusals.{AsksFor}
use Rattle.mv_core.specs.Replies.{newer, block, first_block, seen_block, fresh_block, acquire_block, may_make, first_refused, is_worn, first_worn, first_not_own, commit_block}

abbrev Objects : Type 0
Objects = List (Option (Object Body))

-- ---- one object

-- P of what blocks an object that was looked up
record Blocks (P : Reply → Type 0) (who object : ℕ) (seen : Option ℕ) (found : Option (Object Body)) : Type 0 where
  pub stranger : found ≡ None → P (Stranger object)
  pub owned : (it : Object Body) (by : ℕ) → found ≡ Some it → it.owner ≡ Some by → by ≢ who → P (Owned object by)
  pub newer : (it : Object Body) (number : ℕ) → found ≡ Some it → it.owner ≡ None → seen ≡ Some number → number < it.number → P (Newer object it.number)

newer-is : (P : Reply → Type 0) (object latest : ℕ) (seen : Option ℕ) → ((number : ℕ) → seen ≡ Some number → number < latest → P (Newer object latest)) → MatchOption (newer object seen latest) ⊤ P
newer-is P object latest None is = tt
newer-is P object latest (Some number) is = step (nat_lt number latest) refl
  where
    step : (above : Bool) → nat_lt number latest ≡ above → MatchOption (if above then Some (Newer object latest) else None) ⊤ P
    step true above = is number refl (ltb-true number latest above)
    step false above = tt

owner-is : (P : Reply → Type 0) (who object : ℕ) (seen : Option ℕ) (it : Object Body) (owner : Option ℕ) → it.owner ≡ owner → Blocks P who object seen (Some it) → MatchOption (elim owner [ None ↦ newer object seen it.number | Some by ↦ if by == who then None else Some (Owned object by) ]) ⊤ P
owner-is P who object seen it None owner blocks =
    newer-is P object it.number seen (λ number is above. blocks.newer it number refl owner is above)
owner-is P who object seen it (Some by) owner blocks = step (by == who) refl
  where
    step : (own : Bool) → (by == who) ≡ own → MatchOption (if own then None else Some (Owned object by)) ⊤ P
    step true own = tt
    step false own = blocks.owned it by refl owner (eqb-false by who own)

block-is : (P : Reply → Type 0) (who object : ℕ) (seen : Option ℕ) (found : Option (Object Body)) → Blocks P who object seen found → MatchOption (block who object seen found) ⊤ P
block-is P who object seen None blocks = blocks.stranger refl
block-is P who object seen (Some it) blocks = owner-is P who object seen it it.owner refl blocks

-- ---- the first of several

or-is : (P : Reply → Type 0) (one other : Option Reply) → MatchOption one ⊤ P → MatchOption other ⊤ P → MatchOption (option_or one other) ⊤ P
or-is P None other is others = others
or-is P (Some reply) other is others = is

contains-more : {A : Type 0} (x y : A) (xs : List A) → Contains xs y → Contains (x ∷ xs) y
contains-more x y xs has = Contains-append_right (x ∷ []) xs y has

first-is : {A : Type 0} (P : Reply → Type 0) (blocks : A → Option Reply) (listed : List A) → ((one : A) → Contains listed one → MatchOption (blocks one) ⊤ P) → MatchOption (first_block blocks listed) ⊤ P
first-is P blocks [] is = tt
first-is P blocks (one ∷ others) is =
    or-is P (blocks one) (first_block blocks others) (is one (0, omega arith, refl)) (first-is P blocks others (λ other has. is other (contains-more one other others has)))

-- P of what blocks an Acquire
pub record AcquireBlocks (P : Reply → Type 0) (objects : Objects) (who : ℕ) (keep : List Seen) (fresh : List ℕ) (same : List Seen) : Type 0 where
  pub stranger : (object : ℕ) → AsksFor keep fresh same object → kept_at objects object ≡ None → P (Stranger object)
  pub owned : (object by : ℕ) (it : Object Body) → AsksFor keep fresh same object → kept_at objects object ≡ Some it → it.owner ≡ Some by → by ≢ who → P (Owned object by)
  pub newer : (seen : Seen) (it : Object Body) → Contains (keep ++ same) seen → kept_at objects seen.object ≡ Some it → it.owner ≡ None → seen.number < it.number → P (Newer seen.object it.number)

seen-is : (P : Reply → Type 0) (objects : Objects) (who : ℕ) (keep : List Seen) (fresh : List ℕ) (same : List Seen) (seen : Seen) → AcquireBlocks P objects who keep fresh same → Contains (keep ++ same) seen → MatchOption (block who seen.object (Some seen.number) (kept_at objects seen.object)) ⊤ P
seen-is P objects who keep fresh same seen blocks has =
    block-is P who seen.object (Some seen.number) (kept_at objects seen.object) (record {
      stranger = λ none. blocks.stranger seen.object (inl (seen, has, refl)) none;
      owned = λ it by found owner other. blocks.owned seen.object by it (inl (seen, has, refl)) found owner other;
      newer = λ it number found free is above. blocks.newer seen it has found free (subst (λ k. k < it.number) (some-same number seen.number (sym is)) above);
    })
  where
    some-same : (one other : ℕ) → Some one ≡ Some other → one ≡ other
    some-same one other same = cc

asked-is : (P : Reply → Type 0) (objects : Objects) (who : ℕ) (keep : List Seen) (fresh : List ℕ) (same : List Seen) (object : ℕ) → AcquireBlocks P objects who keep fresh same → Contains fresh object → MatchOption (block who object None (kept_at objects object)) ⊤ P
asked-is P objects who keep fresh same object blocks has =
    block-is P who object None (kept_at objects object) (record {
      stranger = λ none. blocks.stranger object (inr has) none;
      owned = λ it by found owner other. blocks.owned object by it (inr has) found owner other;
      newer = λ it number found free is above. cc;
    })

pub acquire-is : (P : Reply → Type 0) (objects : Objects) (who : ℕ) (keep : List Seen) (fresh : List ℕ) (same : List Seen) → AcquireBlocks P objects who keep fresh same → MatchOption (acquire_block objects who keep fresh same) ⊤ P
acquire-is P objects who keep fresh same blocks =
    or-is P (seen_block objects who keep) (option_or (fresh_block objects who fresh) (seen_block objects who same))
    (first-is P (λ (seen : Seen). block who seen.object (Some seen.number) (kept_at objects seen.object)) keep (λ seen has. seen-is P objects who keep fresh same seen blocks (Contains-append_left keep same seen has)))
    (or-is P (fresh_block objects who fresh) (seen_block objects who same)
    (first-is P (λ object. block who object None (kept_at objects object)) fresh (λ object has. asked-is P objects who keep fresh same object blocks has))
    (first-is P (λ (seen : Seen). block who seen.object (Some seen.number) (kept_at objects seen.object)) same (λ seen has. seen-is P objects who keep fresh same seen blocks (Contains-append_right keep same seen has))))

-- ---- objects and changes that an entry names

-- P of each element that passes gives P of the first that does
pub find-is : {A : Type 0} (P : A → Type 0) (p : A → Bool) (listed : List A) → ((one : A) → Contains listed one → p one ≡ true → P one) → MatchOption (find p listed) ⊤ P
find-is P p [] is = tt
find-is P p (one ∷ others) is = step (p one) refl (find-is P p others (λ other has passes. is other (contains-more one other others has) passes))
  where
    step : (b : Bool) → p one ≡ b → MatchOption (find p others) ⊤ P → MatchOption (cond b (Some one) (find p others)) ⊤ P
    step true passes rest = is one (0, omega arith, refl) passes
    step false passes rest = rest

-- the least number is that of the change before, and one more
abbrev LeastAfter : List Change → ℕ → Type 0
LeastAfter done least = (least ≡ 0) ⊎ ((front : List Change) × (before : Change) × (done ≡ front ++ before ∷ []) × (least ≡ before.object + 1))

-- P of what refuses a change: it may not be made, or its object isn't above that of the change before it
pub record Refuses (P : ℕ → Type 0) (may : Change → Bool) (all : List Change) : Type 0 where
  pub unmakable : (c : Change) → Contains all c → may c ≡ false → P c.object
  pub unordered : (c : Change) (front : List Change) (before : Change) (back : List Change) → all ≡ front ++ before ∷ c ∷ back → c.object ≤ before.object → P c.object

below-is : (P : ℕ → Type 0) (may : Change → Bool) (all done : List Change) (c : Change) (cs : List Change) (least : ℕ) → Refuses P may all → all ≡ done ++ c ∷ cs → c.object < least → LeastAfter done least → P c.object
below-is P may all done c cs least refuses parts below after =
    elim after [
      | inl none ↦ absurd (omega (arith, below, none))
      | inr some ↦ refuses.unordered c some.0 some.1 cs (parts ∙ ap (λ (front : List Change). front ++ c ∷ cs) some.2 ∙ append_assoc some.0 (some.1 ∷ []) (c ∷ cs)) (omega (arith, below, some.3))
    ]

refused-from : (P : ℕ → Type 0) (may : Change → Bool) (all done changes : List Change) (least : ℕ) → Refuses P may all → all ≡ done ++ changes → LeastAfter done least → MatchOption (first_refused may least changes) ⊤ P
refused-from P may all done [] least refuses parts after = tt
refused-from P may all done (c ∷ cs) least refuses parts after =
    let next = parts ∙ sym (append_assoc done (c ∷ []) cs) in
    let follows : LeastAfter (done ++ c ∷ []) (c.object + 1) = inr (done, c, refl, refl) in
    step (nat_le least c.object) (may c) refl refl (refused-from P may all (done ++ c ∷ []) cs (c.object + 1) refuses next follows)
  where
    step : (above makable : Bool) → nat_le least c.object ≡ above → may c ≡ makable → MatchOption (first_refused may (c.object + 1) cs) ⊤ P → MatchOption (if above && makable then first_refused may (c.object + 1) cs else Some c.object) ⊤ P
    step true true above makable rest = rest
    step true false above makable rest =
        refuses.unmakable c (subst (λ (changes : List Change). Contains changes c) (sym parts) (Contains-append_right done (c ∷ cs) c (0, omega arith, refl))) makable
    step false makable above may_be rest = below-is P may all done c cs least refuses parts (leb-false least c.object above) after

pub refused-is : (P : ℕ → Type 0) (may : Change → Bool) (changes : List Change) → Refuses P may changes → MatchOption (first_refused may 0 changes) ⊤ P
refused-is P may changes refuses = refused-from P may changes [] changes 0 refuses refl (inl refl)

-- P of what blocks a commit
pub record CommitBlocks (P : Reply → Type 0) (definitions : List Def) (objects : Objects) (who : ℕ) (changes : List Change) (leave : List ℕ) : Type 0 where
  pub changed : Refuses (λ object. P (Stranger object)) (may_make definitions objects (Some who)) changes
  pub left : (object : ℕ) → Contains leave object → is_own who (kept_at objects object) ≡ false → P (Stranger object)
  pub worn : (c : Change) → Contains changes c → is_worn (kept_at objects c.object) ≡ true → P (Worn c.object)

not-true : (b : Bool) → not b ≡ true → b ≡ false
not-true true is = cc
not-true false is = refl

or-match : (P : ℕ → Type 0) (one other : Option ℕ) → MatchOption one ⊤ P → MatchOption other ⊤ P → MatchOption (option_or one other) ⊤ P
or-match P None other is others = others
or-match P (Some object) other is others = is

map-match : {A B : Type 0} (f : A → B) (P : B → Type 0) (found : Option A) → MatchOption found ⊤ (λ one. P (f one)) → MatchOption (option_map f found) ⊤ P
map-match f P None is = tt
map-match f P (Some one) is = is

stranger-or-worn : (P : Reply → Type 0) (stranger worn : Option ℕ) → MatchOption stranger ⊤ (λ object. P (Stranger object)) → MatchOption worn ⊤ (λ object. P (Worn object)) → MatchOption (elim stranger [ Some object ↦ Some (Stranger object) | None ↦ option_map Worn worn ]) ⊤ P
stranger-or-worn P (Some object) worn strange is = strange
stranger-or-worn P None worn strange is = map-match Worn P worn is

pub commit-is : (P : Reply → Type 0) (definitions : List Def) (objects : Objects) (who : ℕ) (changes : List Change) (leave : List ℕ) → CommitBlocks P definitions objects who changes leave → MatchOption (commit_block definitions objects who changes leave) ⊤ P
commit-is P definitions objects who changes leave blocks =
    stranger-or-worn P (option_or (first_refused (may_make definitions objects (Some who)) 0 changes) (first_not_own objects who leave)) (first_worn objects changes)
    (or-match (λ object. P (Stranger object)) (first_refused (may_make definitions objects (Some who)) 0 changes) (first_not_own objects who leave)
    (refused-is (λ object. P (Stranger object)) (may_make definitions objects (Some who)) changes blocks.changed)
    (find-is (λ object. P (Stranger object)) (λ object. not (is_own who (kept_at objects object))) leave (λ object has out. blocks.left object has (not-true (is_own who (kept_at objects object)) out))))
    (map-match (λ (c : Change). c.object) (λ object. P (Worn object)) (find (λ (c : Change). is_worn (kept_at objects c.object)) changes) (find-is (λ (c : Change). P (Worn c.object)) (λ (c : Change). is_worn (kept_at objects c.object)) changes blocks.worn))
