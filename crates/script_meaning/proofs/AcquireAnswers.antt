-- How an ACQUIRE is answered.
use Rattle.std.specs.Prelude.{◌≡◌, ◌<◌, ◌≤◌, ◌⊎◌, ◌++◌, ◌==◌, ℕ, Bool, true, false, cond, map, List, [], ◌∷◌, Option, None, Some, IsSome, nat_lt, slice_get, if◌then◌else◌, refl}
use Rattle.std.specs.List.{list_any}
use Rattle.std.specs.Option.{option_or}
use Rattle.std.proofs.Common.{◌∙◌, ap, sym, subst, inl, inr, ⊎_elim}
use Rattle.std.proofs.lemmas.Bool.{eqb-true, eqb-false, ltb-true, ltb-false, true≢false}
use Rattle.std.proofs.lemmas.Option.{same_Some}
use Rattle.aw_schema.specs.declared.definition.Def.{Def}
use Rattle.aw_body.specs.declared.body.Body.{Body}
use Rattle.aw_body.specs.declared.change.Change.{Change}
use Rattle.aw_body.specs.declared.change.Seen.{Seen}
use Rattle.aw_body.specs.Generations.{Bodies}
use Rattle.aw_body.specs.KeptBodies.{bodies_of}
use Rattle.aw_body.specs.Owners.{owner_of}
use Rattle.aw_body.specs.OwnerLaws.{owner_of-taken}
use Rattle.aw_codec.specs.declared.record.Decoded.{Decoded}
use Rattle.mv_core.specs.declared.entry.Reply.{Reply}
use Rattle.mv_core.specs.declared.entry.Reply.TheVariants.{Owned, Newer, Stranger}
use Rattle.mv_core.specs.declared.object.Object.{Object}
use Rattle.mv_core.specs.Effects.{taken_of}
use Rattle.mv_core.specs.Lookups.{kept_at}
use Rattle.mv_core.specs.Replies.{newer as newer_block, block, first_block, seen_block, fresh_block, acquire_block}
use Rattle.mv_core.specs.Workspace.{Workspace, standing}
use Rattle.mv_view.specs.ViewState.{ObjectView, ViewState, object_of}
use Rattle.ses_report.specs.declared.refusal.Refusal.{Refusal}
use Rattle.ses_report.specs.Refusals.{not_attached, owned_by, newer}
use Rattle.ses_step.specs.declared.answer.Answer.TheVariants.{Refused}
use Rattle.ses_step.specs.declared.command.Command.{Command}
use Rattle.ses_step.specs.declared.command.Command.TheVariants as command
use Rattle.ses_step.specs.declared.session.Begun.TheVariants.{Said}
use Rattle.ses_step.specs.declared.session.Known.{Known as Session}
use Rattle.ses_step.specs.Sessions.{number_in, sharing, kept_waiting, name_of, name_at}
use Rattle.script_world.specs.Worlds.{Event}
use Rattle.script_world.specs.Outcomes.{Outcome}
use Rattle.script_meaning.specs.AcquireAnswers.{Listed, as_it_is, as_renewed, in_order, Blocks, Passes, AllPass, IsRefusedFor, AnswersAcquire, AcquiresAreAnswered}
use Rattle.script_meaning.specs.Fit.{SharedFits}
use Rattle.script_meaning.specs.Generations.{latest_number}
use Rattle.script_meaning.specs.LineAnswers.{AreSeenIn}
use Rattle.script_meaning.specs.Language.{by_history, HistoryDisk, HistoryWorld}
use Rattle.aw_store.specs.StoredRecords.{CanBeOpened}
use Rattle.script_meaning.specs.Transcript.{world_at}
use Rattle.script_meaning.specs.Turns.{Turn, turn_from, turn}
use Rattle.script_meaning.proofs.Begins.{generations_in, number-seen}
use Rattle.script_meaning.proofs.DiskTurns.{unwritten_turn}
use Rattle.script_meaning.proofs.ReachableWorlds.{fits_at, found_at_number}
use Rattle.script_meaning.proofs.Replies.{kept-stands}
use Rattle.script_meaning.proofs.TurnCases.{acquire_turn, kept-kind, sees-so}

-- ---- the objects in the order written

abbrev object_at : Listed → ℕ
object_at one = one.object

listed-objects : (f : ℕ → Listed) → ((object : ℕ) → object_at (f object) ≡ object) → (objects : List ℕ) (more : List Listed) → map object_at (map f objects ++ more) ≡ objects ++ map object_at more
listed-objects f is [] more = refl
listed-objects f is (object ∷ objects) more =
    ap (λ (at : ℕ). at ∷ map object_at (map f objects ++ more)) (is object) ∙ ap (λ (rest : List ℕ). object ∷ rest) (listed-objects f is objects more)

last-objects : (objects : List ℕ) → map object_at (map as_it_is objects) ≡ objects
last-objects [] = refl
last-objects (object ∷ objects) = ap (λ (rest : List ℕ). object ∷ rest) (last-objects objects)

objects-in-order : (keep fresh same : List ℕ) → map object_at (in_order keep fresh same) ≡ keep ++ (fresh ++ same)
objects-in-order keep fresh same =
    listed-objects as_it_is (λ object. refl) keep (map as_renewed fresh ++ map as_it_is same)
    ∙ ap (λ rest. keep ++ rest) (listed-objects as_renewed (λ object. refl) fresh (map as_it_is same) ∙ ap (λ rest. fresh ++ rest) (last-objects same))

or-assoc : (one other last : Option Reply) → option_or one (option_or other last) ≡ option_or (option_or one other) last
or-assoc None other last = refl
or-assoc (Some reply) other last = refl

module _ (s : Session) (objects : List (Option (Object Body))) where
  -- what blocks an object
  abbrev blocks_at : Listed → Option Reply
  blocks_at one = block s.who one.object (cond one.renewed None (Some (number_in s one.object))) (kept_at objects one.object)

  kept-blocks : (keep : List ℕ) (more : List Listed) → first_block blocks_at (map as_it_is keep ++ more) ≡ option_or (seen_block objects s.who (generations_in s keep)) (first_block blocks_at more)
  kept-blocks [] more = refl
  kept-blocks (object ∷ keep) more =
      let b = blocks_at (as_it_is object) in
      ap (option_or b) (kept-blocks keep more) ∙ or-assoc b (seen_block objects s.who (generations_in s keep)) (first_block blocks_at more)

  renewed-blocks : (fresh : List ℕ) (more : List Listed) → first_block blocks_at (map as_renewed fresh ++ more) ≡ option_or (fresh_block objects s.who fresh) (first_block blocks_at more)
  renewed-blocks [] more = refl
  renewed-blocks (object ∷ fresh) more =
      let b = blocks_at (as_renewed object) in
      ap (option_or b) (renewed-blocks fresh more) ∙ or-assoc b (fresh_block objects s.who fresh) (first_block blocks_at more)

  last-blocks : (same : List ℕ) → first_block blocks_at (map as_it_is same) ≡ seen_block objects s.who (generations_in s same)
  last-blocks [] = refl
  last-blocks (object ∷ same) = ap (option_or (blocks_at (as_it_is object))) (last-blocks same)

  in-order : (keep fresh same : List ℕ) → first_block blocks_at (in_order keep fresh same) ≡ acquire_block objects s.who (generations_in s keep) fresh (generations_in s same)
  in-order keep fresh same =
      kept-blocks keep (map as_renewed fresh ++ map as_it_is same)
      ∙ ap (option_or (seen_block objects s.who (generations_in s keep))) (renewed-blocks fresh (map as_it_is same) ∙ ap (option_or (fresh_block objects s.who fresh)) (last-blocks same))

-- the objects that are taken
taken-are : (s : Session) (keep fresh : List ℕ) → taken_of (generations_in s keep) fresh ≡ keep ++ fresh
taken-are s keep fresh = ap (λ those. those ++ fresh) (mapped keep)
  where
    mapped : (objects : List ℕ) → map (λ (seen : Seen). seen.object) (generations_in s objects) ≡ objects
    mapped [] = refl
    mapped (object ∷ objects) = ap (λ (rest : List ℕ). object ∷ rest) (mapped objects)

-- ---- which object blocks first

module _ (coming : List Outcome) (definitions : List Def) (names : List (List ℕ)) (sessions : List Session) (disk : HistoryDisk) (s : Session) (fits : SharedFits definitions sessions disk.state) (own_place : slice_get sessions s.who ≡ Some s) (view : ViewState) (attached : s.view ≡ Some view) where
  abbrev shared : Workspace
  shared = disk.state

  abbrev bodies : Bodies Body Change
  bodies = bodies_of shared.definitions

  abbrev blocks : Listed → Option Reply
  blocks = blocks_at s (standing bodies shared)

  -- a reply tells the refusal
  abbrev Tells : Reply → Refusal → Type 0
  Tells (Owned object by) refusal = refusal ≡ owned_by (name_of definitions object) (name_at names by)
  Tells (Newer object number) refusal = refusal ≡ newer (name_of definitions object) number
  Tells _ refusal = ⊥

  record BlocksBy (one : Listed) (found : Option Reply) : Type 0 where
    reply : Reply
    refusal : Refusal
    found_is : found ≡ Some reply
    tells : Tells reply refusal
    so : Blocks definitions names shared s.who view one refusal

  abbrev Verdict : Listed → Option Reply → Type 0
  Verdict one found = ((found ≡ None) × Passes shared s.who view one) ⊎ BlocksBy one found

  module _ (object : ℕ) (renewed : Bool) (found : ObjectView) (there : object_of view object ≡ Some found) where
    abbrev this : Listed
    this = record { object = object; renewed = renewed }

    number_is : number_in s object ≡ found.number
    number_is = number-seen s object (sees-so definitions names sessions shared s fits own_place view attached object found there)

    by_test : owner_of shared.owners object ≡ None → renewed ≡ false → (test : Bool) → nat_lt (number_in s object) (latest_number shared object) ≡ test → Verdict this (if test then Some (Newer object (latest_number shared object)) else None)
    by_test free kept true is = inr (record {
      reply = Newer object (latest_number shared object);
      refusal = newer (name_of definitions object) (latest_number shared object);
      found_is = refl;
      tells = refl;
      so = inr (kept, record { free = free; found = found; seen = there; below = subst (λ (n : ℕ). n < latest_number shared object) number_is (ltb-true (number_in s object) (latest_number shared object) is); is = refl });
    })
    by_test free kept false is =
        inl (refl, inr (free, λ its. record { found = found; seen = there; least = subst (λ (n : ℕ). latest_number shared object ≤ n) number_is (ltb-false (number_in s object) (latest_number shared object) is) }))

    by_number : owner_of shared.owners object ≡ None → (test : Bool) → renewed ≡ test → Verdict this (newer_block object (cond test None (Some (number_in s object))) (latest_number shared object))
    by_number free true is = inl (refl, inr (free, λ its. absurd (true≢false (sym is ∙ its))))
    by_number free false is = by_test free is (nat_lt (number_in s object) (latest_number shared object)) refl

    by_own : (by : ℕ) → owner_of shared.owners object ≡ Some by → (test : Bool) → (by == s.who) ≡ test → Verdict this (if test then None else Some (Owned object by))
    by_own by is true same = inl (refl, inl (is ∙ ap Some (eqb-true by s.who same)))
    by_own by is false differs = inr (record {
      reply = Owned object by;
      refusal = owned_by (name_of definitions object) (name_at names by);
      found_is = refl;
      tells = refl;
      so = inl (record { by = by; owned = is; other = eqb-false by s.who differs; is = refl });
    })

    by_owner : (owner : Option ℕ) → owner_of shared.owners object ≡ owner → Verdict this (elim owner [ None ↦ newer_block object (cond renewed None (Some (number_in s object))) (latest_number shared object) | Some by ↦ if by == s.who then None else Some (Owned object by) ])
    by_owner None free = by_number free renewed refl
    by_owner (Some by) is = by_own by is (by == s.who) refl

    one-verdict : Verdict this (blocks this)
    one-verdict =
        subst (λ (kept : Option (Object Body)). Verdict this (block s.who object (cond renewed None (Some (number_in s object))) kept))
        (sym (kept-stands bodies shared object found.kind (kept-kind definitions names sessions shared s fits own_place view attached object found there))) (by_owner (owner_of shared.owners object) refl)

  -- the first that blocks, and that all before it pass
  record First (asked : List Listed) (found : Option Reply) : Type 0 where
    before : List Listed
    one : Listed
    behind : List Listed
    split : asked ≡ before ++ one ∷ behind
    passed : AllPass shared s.who view before
    its : BlocksBy one found

  abbrev Verdicts : List Listed → Option Reply → Type 0
  Verdicts asked found = ((found ≡ None) × AllPass shared s.who view asked) ⊎ First asked found

  verdicts : (asked : List Listed) → AreSeenIn view (map object_at asked) → Verdicts asked (first_block blocks asked)
  verdicts [] seen = inl (refl, tt)
  verdicts (one ∷ others) seen = by_seen (object_of view one.object) refl seen.0 (verdicts others seen.1)
    where
      behind : blocks one ≡ None → Passes shared s.who view one → Verdicts others (first_block blocks others) → Verdicts (one ∷ others) (option_or (blocks one) (first_block blocks others))
      behind none passes rest =
          subst (Verdicts (one ∷ others)) (sym (ap (λ (first : Option Reply). option_or first (first_block blocks others)) none))
          (⊎_elim (λ all. inl (all.0, (passes, all.1))) (λ first. inr (record { before = one ∷ first.before; one = first.one; behind = first.behind; split = ap (λ (rest : List Listed). one ∷ rest) first.split; passed = (passes, first.passed); its = first.its })) rest)

      here : BlocksBy one (blocks one) → Verdicts (one ∷ others) (option_or (blocks one) (first_block blocks others))
      here it = inr (record { before = []; one = one; behind = others; split = refl; passed = tt; its = record { reply = it.reply; refusal = it.refusal; found_is = ap (λ (first : Option Reply). option_or first (first_block blocks others)) it.found_is; tells = it.tells; so = it.so } })

      by_seen : (found : Option ObjectView) → object_of view one.object ≡ found → IsSome found → Verdicts others (first_block blocks others) → Verdicts (one ∷ others) (option_or (blocks one) (first_block blocks others))
      by_seen None is some rest = cc
      by_seen (Some found) is some rest = ⊎_elim (λ passes. behind passes.0 passes.1 rest) here (one-verdict one.object one.renewed found is)

  -- ---- the answer

  module _ (keep fresh same : List ℕ) (seen : AreSeenIn view (keep ++ (fresh ++ same))) where
    abbrev asked : List Listed
    asked = in_order keep fresh same

    abbrev found_block : Option Reply
    found_block = acquire_block (standing bodies shared) s.who (generations_in s keep) fresh (generations_in s same)

    its-verdict : Verdicts asked found_block
    its-verdict =
        subst (Verdicts asked) (in-order s (standing bodies shared) keep fresh same) (verdicts asked (subst (AreSeenIn view) (sym (objects-in-order keep fresh same)) seen))

    abbrev Answers : Turn HistoryDisk → Type 0
    Answers t = AnswersAcquire definitions names disk s view keep fresh same t

    none-blocks : {A : Type 0} (reply : Reply) → found_block ≡ None → found_block ≡ Some reply → A
    none-blocks reply none some = cc

    told-by : (reply : Reply) → found_block ≡ Some reply → (first : First asked found_block) → Tells reply first.its.refusal
    told-by reply is first = subst (λ (one : Reply). Tells one first.its.refusal) (same_Some first.its.reply reply (sym first.its.found_is ∙ is)) first.its.tells

    -- a reply that blocks is of the first object that does
    refused-for : (reply : Reply) (refusal : Refusal) → found_block ≡ Some reply → ((its : Refusal) → Tells reply its → its ≡ refusal) → Answers (unwritten_turn disk (record { answer = Refused refusal; session = s; shared = shared }))
    refused-for reply refusal is tells = ⊎_elim (λ all. none-blocks reply all.0 is) (λ first. inr (by_first first)) its-verdict
      where
        by_first : First asked found_block → IsRefusedFor definitions names disk s view asked (unwritten_turn disk (record { answer = Refused refusal; session = s; shared = shared }))
        by_first first = record {
          before = first.before;
          one = first.one;
          behind = first.behind;
          split = first.split;
          passed = first.passed;
          refusal = refusal;
          blocks = subst (Blocks definitions names shared s.who view first.one) (tells first.its.refusal (told-by reply is first)) first.its.so;
          answer = refl;
          same_session = refl;
          same_shared = refl;
        }

    acquire_answered : Answers (turn (by_history coming) definitions names disk s (command.Acquire keep fresh same))
    acquire_answered =
        let own : Command = command.Acquire keep fresh same in
        subst (λ (those : Option ViewState). Answers (turn_from (by_history coming) definitions names disk (kept_waiting own (elim those [ None ↦ (Said (Refused not_attached), s) | Some one ↦ sharing s one own ])))) (sym attached)
        (acquire_turn definitions names sessions shared s fits own_place view attached (λ t. Answers (unwritten_turn disk t)) keep fresh same
        (λ object is. ⊎_elim (λ all. none-blocks (Stranger object) all.0 is) (λ first. absurd (told-by (Stranger object) is first)) its-verdict)
        (λ object by is. refused-for (Owned object by) (owned_by (name_of definitions object) (name_at names by)) is (λ its tells. tells))
        (λ object number is. refused-for (Newer object number) (newer (name_of definitions object) number) is (λ its tells. tells))
        (λ none. ⊎_elim (λ all. inl (record {
          passed = all.1;
          answer = refl;
          owners = λ object. owner_of-taken shared.owners s.who (taken_of (generations_in s keep) fresh) object ∙ ap (λ (those : List ℕ). cond (list_any (λ one. one == object) those) (Some s.who) (owner_of shared.owners object)) (taken-are s keep fresh);
          history = refl;
        })) (λ first. none-blocks first.its.reply none first.its.found_is) its-verdict))

-- ---- after any lines

module _ (names : List (List ℕ)) (records : List Decoded) (coming : List Outcome) (events : List Event) (can : CanBeOpened records) where
  abbrev reached : HistoryWorld
  reached = world_at names records coming events

  pub acquires_are_answered : AcquiresAreAnswered coming (world_at names records coming events)
  acquires_are_answered disk who session view is found attached =
      acquire_answered coming reached.definitions reached.names reached.sessions disk session (fits_at names records coming events can disk is) (found_at_number names records coming events can disk who session is found) view attached
