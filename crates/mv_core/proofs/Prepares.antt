-- What an entry is prepared to: the reply, and what is to be done for it.
use Rattle.std.specs.Prelude.{◌≡◌, ◌&&◌, ℕ, ◌+◌, nat_le, true, false, List, [], ◌∷◌, All, Option, Some, None, MatchOption, ⊤, IfSome, refl}
use Rattle.std.proofs.lemmas.Bool.{and_parts}
use Rattle.std.specs.List.{cons_option}
use Rattle.std.specs.Option.{option_or, option_map, unwrap_or}
use Rattle.std.proofs.Common.{◌∙◌, sym, ap, ap₂, subst}
use Rattle.aw_schema.specs.declared.definition.Def.{Def}
use Rattle.aw_body.specs.declared.body.Body.{Body}
use Rattle.aw_body.specs.declared.change.Change.{Change}
use Rattle.aw_body.specs.declared.change.Fresh.{Fresh}
use Rattle.aw_body.specs.declared.change.Seen.{Seen}
use Rattle.mv_core.specs.declared.entry.Entry.{Entry}
use Rattle.mv_core.specs.declared.entry.Entry.TheVariants.{Acquire, Commit}
use Rattle.mv_core.specs.declared.entry.Reply.{Reply}
use Rattle.mv_core.specs.declared.entry.Reply.TheVariants.{Committed, Stranger, Worn}
use Rattle.mv_core.specs.declared.object.Object.{Object}
use Rattle.mv_core.specs.declared.ready.Todo.TheVariants.{Nothing, Renew}
use Rattle.mv_core.specs.Effects.{each, free_listed, objects_after}
use Rattle.mv_core.specs.Lookups.{kept_at}
use Rattle.mv_core.specs.Objects.{AreObjectsOf}
use Rattle.mv_core.specs.Prepared.{Prepared, makes, IsReadyFor}
use Rattle.mv_core.specs.Replies.{fits_object, may_make, first_refused, first_worn, first_not_own, acquire_block, commit_block}
use Rattle.mv_core.specs.SharedStep.{writes}
use Rattle.mv_core.specs.inside.Making.{made_by, made_of, IsMakable}
use Rattle.mv_core.proofs.Blocking.{acquire-is, commit-is}
use Rattle.mv_core.proofs.Making.{cond-none, fits-made, makable, forms-made, renewed-committed}
use Rattle.aw_schema.proofs.callers.AcceptedCatalogues.{or_parts}

abbrev Objects : Type 0
Objects = List (Option (Object Body))

-- a reply after which nothing is to be done
abbrev Quiet : Objects → Entry → Reply → Type 0
Quiet objects entry reply = (objects_after objects entry reply ≡ objects) × (writes entry reply ≡ false)

matched : (found : Option Reply) (P : Reply → Type 0) (reply : Reply) → Some reply ≡ found → MatchOption found ⊤ P → P reply
matched found P reply is match = subst (λ (one : Option Reply). MatchOption one ⊤ P) (sym is) match

-- what blocks an Acquire changes nothing
pub acquire-quiet : (objects : Objects) (who : ℕ) (keep : List Seen) (fresh : List ℕ) (same : List Seen) → MatchOption (acquire_block objects who keep fresh same) ⊤ (Quiet objects (Acquire who keep fresh same))
acquire-quiet objects who keep fresh same =
    acquire-is (Quiet objects (Acquire who keep fresh same)) objects who keep fresh same (record {
      stranger = λ object asked none. (refl, refl);
      owned = λ object by it asked found owner other. (refl, refl);
      newer = λ seen it asked found free above. (refl, refl);
    })

still-of : (objects : Objects) (entry : Entry) (found : Option Reply) → MatchOption found ⊤ (Quiet objects entry) → IfSome found (λ refusal. objects_after objects entry refusal ≡ objects)
still-of objects entry None quiet = tt
still-of objects entry (Some refusal) quiet = quiet.0

unwritten-of : (objects : Objects) (entry : Entry) (found : Option Reply) → MatchOption found ⊤ (Quiet objects entry) → IfSome found (λ refusal. writes entry refusal ≡ false)
unwritten-of objects entry None quiet = tt
unwritten-of objects entry (Some refusal) quiet = quiet.1

pub acquire-still : (objects : Objects) (who : ℕ) (keep : List Seen) (fresh : List ℕ) (same : List Seen) (found : Option Reply) → found ≡ acquire_block objects who keep fresh same → IfSome found (λ refusal. objects_after objects (Acquire who keep fresh same) refusal ≡ objects)
acquire-still objects who keep fresh same found is =
    still-of objects (Acquire who keep fresh same) found (subst (λ (one : Option Reply). MatchOption one ⊤ (Quiet objects (Acquire who keep fresh same))) (sym is) (acquire-quiet objects who keep fresh same))

pub acquire-unwritten : (objects : Objects) (who : ℕ) (keep : List Seen) (fresh : List ℕ) (same : List Seen) (found : Option Reply) → found ≡ acquire_block objects who keep fresh same → IfSome found (λ refusal. writes (Acquire who keep fresh same) refusal ≡ false)
acquire-unwritten objects who keep fresh same found is =
    unwritten-of objects (Acquire who keep fresh same) found (subst (λ (one : Option Reply). MatchOption one ⊤ (Quiet objects (Acquire who keep fresh same))) (sym is) (acquire-quiet objects who keep fresh same))

-- a commit that is blocked
stranger-quiet : (objects : Objects) (who : ℕ) (changes : List Change) (leave : List ℕ) (object : ℕ) → Quiet objects (Commit who changes leave) (Stranger object)
stranger-quiet objects who [] leave object = (refl, refl)
stranger-quiet objects who (c ∷ changes) leave object = (refl, refl)

worn-quiet : (objects : Objects) (who : ℕ) (changes : List Change) (leave : List ℕ) (object : ℕ) → Quiet objects (Commit who changes leave) (Worn object)
worn-quiet objects who [] leave object = (refl, refl)
worn-quiet objects who (c ∷ changes) leave object = (refl, refl)

pub commit-refused : (definitions : List Def) (objects : Objects) (who : ℕ) (changes : List Change) (leave : List ℕ) (refusal : Reply) → Some refusal ≡ commit_block definitions objects who changes leave → IsReadyFor definitions objects (Commit who changes leave) (record { reply = refusal; todo = Nothing })
commit-refused definitions objects who changes leave refusal blocked =
    let quiet = matched (commit_block definitions objects who changes leave) (Quiet objects (Commit who changes leave)) refusal blocked (commit-is (Quiet objects (Commit who changes leave)) definitions objects who changes leave (record {
      changed = record { unmakable = λ c has out. stranger-quiet objects who changes leave c.object; unordered = λ c front before back parts below. stranger-quiet objects who changes leave c.object };
      left = λ object has out. stranger-quiet objects who changes leave object;
      worn = λ c has last. worn-quiet objects who changes leave c.object;
    })) in
    (ap (λ (found : Option Reply). unwrap_or found Committed) blocked, sym quiet.0, sym quiet.1, tt)

-- ---- a commit that is granted

free-parts : (stranger worn : Option ℕ) → ◌≡◌ {A = Option Reply} (elim stranger [ Some object ↦ Some (Stranger object) | None ↦ option_map Worn worn ]) None → (stranger ≡ None) × (worn ≡ None)
free-parts (Some object) worn none = cc
free-parts None (Some object) none = cc
free-parts None None none = (refl, refl)

-- no change is refused, and none worn
pub commit-free : (definitions : List Def) (objects : Objects) (who : ℕ) (changes : List Change) (leave : List ℕ) → commit_block definitions objects who changes leave ≡ None → (first_refused (may_make definitions objects (Some who)) 0 changes ≡ None) × (first_worn objects changes ≡ None)
commit-free definitions objects who changes leave free =
    let refused = first_refused (may_make definitions objects (Some who)) 0 changes in
    let out = first_not_own objects who leave in
    let parts = free-parts (option_or refused out) (first_worn objects changes) free in
    ((or_parts refused out parts.0).0, parts.1)

pub commit-makable : (definitions : List Def) (objects : Objects) (who : ℕ) (changes : List Change) (leave : List ℕ) → AreObjectsOf definitions objects → None ≡ commit_block definitions objects who changes leave → All (IsMakable objects) changes
commit-makable definitions objects who changes leave are free =
    let parts = commit-free definitions objects who changes leave (sym free) in
    makable definitions objects (Some who) changes are parts.0 parts.1

-- changes that are made make generations exactly where there are some
made-some : (who : ℕ) (found : Option (Object Body)) (definitions : List Def) (objects : Objects) (c : Change) (cs : List Change) (leave : List ℕ) → fits_object definitions found c ≡ true → makes (Renew who (cons_option (option_map (made_by c) found) (made_of objects cs)) leave) ≡ true
made-some who None definitions objects c cs leave fit = cc
made-some who (Some it) definitions objects c cs leave fit = refl

makes-made : (definitions : List Def) (objects : Objects) (who : ℕ) (changes : List Change) (leave : List ℕ) → first_refused (may_make definitions objects (Some who)) 0 changes ≡ None → makes (Renew who (made_of objects changes) leave) ≡ writes (Commit who changes leave) Committed
makes-made definitions objects who [] leave free = refl
makes-made definitions objects who (c ∷ cs) leave free =
    let first = cond-none (nat_le 0 c.object && may_make definitions objects (Some who) c) (first_refused (may_make definitions objects (Some who)) (c.object + 1) cs) c.object free in
    made-some who (kept_at objects c.object) definitions objects c cs leave (fits-made definitions objects (Some who) c (and_parts (nat_le 0 c.object) (may_make definitions objects (Some who) c) first.0).1)

pub commit-ready : (definitions : List Def) (objects : Objects) (who : ℕ) (changes : List Change) (leave : List ℕ) → AreObjectsOf definitions objects → None ≡ commit_block definitions objects who changes leave → IsReadyFor definitions objects (Commit who changes leave) (record { reply = Committed; todo = Renew who (made_of objects changes) leave })
commit-ready definitions objects who changes leave are free = (
  ap (λ (found : Option Reply). unwrap_or found Committed) free,
  ap (each (free_listed who leave)) (renewed-committed objects changes),
  makes-made definitions objects who changes leave (commit-free definitions objects who changes leave (sym free)).0,
  forms-made definitions objects changes are,
)

-- what was prepared is such a commit
pub ready-is : (definitions : List Def) (objects : Objects) (entry : Entry) (ready : Prepared) (who : ℕ) (made news : List Fresh) (leave left : List ℕ) → ready ≡ record { reply = Committed; todo = Renew who made leave } → made ≡ news → leave ≡ left → IsReadyFor definitions objects entry (record { reply = Committed; todo = Renew who news left }) → IsReadyFor definitions objects entry ready
ready-is definitions objects entry ready who made news leave left is are lefts ready_so =
    subst (IsReadyFor definitions objects entry) (sym (is ∙ ap₂ (λ (all : List Fresh) (given : List ℕ). let one : Prepared = record { reply = Committed; todo = Renew who all given } in one) are lefts)) ready_so
