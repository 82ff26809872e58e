-- What listeners heard over several calls.
use Rattle.std.specs.Prelude.{ℕ, is_none}
use Rattle.std.specs.List.{AllZip, list_any, cons_option}
use Rattle.std.proofs.Common.{◌≡◌, ◌∙◌, ap, sym, subst, Bool, true, false, ◌||◌, List, [], ◌∷◌, ◌++◌, Option, None, Some, IfSome, filter_map, refl, append_assoc, append-nil}
use Rattle.std.proofs.lemmas.List.Folds.{list_any-append}
use Rattle.aw_feed.specs.Listener.{Note, GainsNotes, Grows, goes_at}
use Rattle.aw_feed.specs.Feed.{Listening, HasHeard, HaveHeard}

gains_nothing : (told : Option (List Note)) → GainsNotes told told []
gains_nothing None = tt
gains_nothing (Some notes) = sym (append-nil notes)

gains_both : (before between now : Option (List Note)) (first next : List Note) → GainsNotes before between first → GainsNotes between now next → GainsNotes before now (first ++ next)
gains_both before between None first next one other = tt
gains_both None None (Some now) first next one other = other
gains_both (Some before) None (Some now) first next one other = absurd other
gains_both None (Some between) (Some now) first next one other = one
gains_both (Some before) (Some between) (Some now) first next one other =
    other ∙ ap (λ notes. notes ++ next) one ∙ append_assoc before first next

stays_through : (listener : Listening) → HasHeard [] listener (Some listener)
stays_through listener = record { stays = (record { where_told = gains_nothing listener.told }, refl); goes = none listener.last }
  where
    none : (last : Option (Option ℕ)) → IfSome last (λ least. false ≡ list_any (λ (note : Note). goes_at least note.0) [])
    none None = tt
    none (Some least) = refl

-- nothing was told
pub heard_nothing : (listeners : List Listening) → HaveHeard [] listeners listeners
heard_nothing [] = record { answers = []; each = tt; left = refl }
heard_nothing (listener ∷ listeners) =
    let others = heard_nothing listeners in
    record {
      answers = Some listener ∷ others.answers;
      each = (stays_through listener, others.each);
      left = ap (λ rest. listener ∷ rest) others.left;
    }

-- one that went at these notes, and one that stayed for them and answered those
went : (first next : List Note) (before : Listening) → HasHeard first before None → HasHeard (first ++ next) before None
went first next before heard = record { stays = tt; goes = goes before.last heard.goes }
  where
    goes : (last : Option (Option ℕ)) → IfSome last (λ least. true ≡ list_any (λ (note : Note). goes_at least note.0) first) → IfSome last (λ least. true ≡ list_any (λ (note : Note). goes_at least note.0) (first ++ next))
    goes None is = tt
    goes (Some least) is =
        let at : Note → Bool = λ note. goes_at least note.0 in
        sym (list_any-append at first next ∙ ap (λ (one : Bool). one || list_any at next) (sym is))

goes_both : (last : Option (Option ℕ)) (first next : List Note) (gone : Bool) → IfSome last (λ least. false ≡ list_any (λ (note : Note). goes_at least note.0) first) → IfSome last (λ least. gone ≡ list_any (λ (note : Note). goes_at least note.0) next) → IfSome last (λ least. gone ≡ list_any (λ (note : Note). goes_at least note.0) (first ++ next))
goes_both None first next gone one other = tt
goes_both (Some least) first next gone one other =
    let at : Note → Bool = λ note. goes_at least note.0 in
    other ∙ sym (list_any-append at first next ∙ ap (λ (went : Bool). went || list_any at next) (sym one))

stayed : (first next : List Note) (before between : Listening) (answer : Option Listening) → HasHeard first before (Some between) → HasHeard next between answer → HasHeard (first ++ next) before answer
stayed first next before between answer heard more = record { stays = both answer more.stays; goes = goes_both before.last first next (is_none answer) heard.goes (subst (λ (last : Option (Option ℕ)). IfSome last (λ least. is_none answer ≡ list_any (λ (note : Note). goes_at least note.0) next)) heard.stays.1 more.goes) }
  where
    both : (answer : Option Listening) → IfSome answer (λ now. Grows between.told now.told next × (now.last ≡ between.last)) → IfSome answer (λ now. Grows before.told now.told (first ++ next) × (now.last ≡ before.last))
    both None stays = tt
    both (Some now) stays = (record { where_told = gains_both before.told between.told now.told first next heard.stays.0.where_told stays.0.where_told }, stays.1 ∙ heard.stays.1)

heard_through : (first next : List Note) (listeners : List Listening) (answers others : List (Option Listening)) → AllZip (HasHeard first) listeners answers → AllZip (HasHeard next) (filter_map (λ answer. answer) answers) others → HaveHeard (first ++ next) listeners (filter_map (λ answer. answer) others)
heard_through first next [] [] [] each more = record { answers = []; each = tt; left = refl }
heard_through first next [] [] (other ∷ others) each more = absurd more
heard_through first next [] (answer ∷ answers) others each more = absurd each
heard_through first next (listener ∷ listeners) [] others each more = absurd each
heard_through first next (listener ∷ listeners) (None ∷ answers) others each more =
    let rest = heard_through first next listeners answers others each.1 more in
    record { answers = None ∷ rest.answers; each = (went first next listener each.0, rest.each); left = rest.left }
heard_through first next (listener ∷ listeners) (Some between ∷ answers) [] each more = absurd more
heard_through first next (listener ∷ listeners) (Some between ∷ answers) (other ∷ others) each more =
    let rest = heard_through first next listeners answers others each.1 more.1 in
    record { answers = other ∷ rest.answers; each = (stayed first next listener between other each.0 more.0, rest.each); left = ap (cons_option other) rest.left }

-- these were told, and then those
pub heard_both : {first next : List Note} {before between now : List Listening} → HaveHeard first before between → HaveHeard next between now → HaveHeard (first ++ next) before now
heard_both {first} {next} {before} {between} {now} one other =
    subst (HaveHeard (first ++ next) before) (sym other.left)
    (heard_through first next before one.answers other.answers one.each (subst (λ (listeners : List Listening). AllZip (HasHeard next) listeners other.answers) one.left other.each))
