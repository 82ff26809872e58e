-- What `retain_mut` leaves of a list of listeners, where each call of its closure asks one of them.
use denote.Ref.{MutBor}
use denote.Param.Members.{Mut}
use Rattle.std.proofs.Common.{◌≡◌, ◌∙◌, ap, subst, ℕ, Bool, true, false, not, ◌||◌, cond, if◌then◌else◌, List, [], ◌∷◌, map, Option, None, Some, IfSome, refl}
use Rattle.std.specs.Fn.{Called, CalledAtMut}
use Rattle.std.specs.List.{list_any}
use Rattle.std.specs.List.Retain.{RetainsInTurn}
use Rattle.aw_feed.specs.declared.listener.Heard.TheVariants.{Stay, Gone}
use Rattle.aw_feed.specs.Listener.{Note, Hears, goes_at}
use Rattle.aw_feed.specs.Feed.{Listening, HaveHeard}

-- a listener heard of this note, and said whether it stays
abbrev pub Answered : Note → Listening → Bool → Listening → Type 0
Answered note before stays now =
    Hears (if stays then Stay else Gone) before.told now.told note
    × IfSome before.last (λ last. stays ≡ not (goes_at last note.0))
    × (now.last ≡ before.last)

goes-once : (last : Option (Option ℕ)) (note : Note) (stays went : Bool) → went ≡ not stays →
    IfSome last (λ least. stays ≡ not (goes_at least note.0)) →
    IfSome last (λ least. went ≡ list_any (λ told. goes_at least told.0) (note ∷ []))
goes-once None note stays went is goes = tt
goes-once (Some least) note stays went is goes = is ∙ turned stays (goes_at least note.0) goes
  where
    turned : (a b : Bool) → a ≡ not b → not a ≡ b || false
    turned a true e = ap not e
    turned a false e = ap not e

module _ {X : Type 0} (known : X → Listening) (note : Note) where
  one-more : (x y : X) (xs zs ys : List X) (stays : Bool) → Answered note (known x) stays (known y) →
      HaveHeard (note ∷ []) (map known xs) (map known zs) → ys ≡ cond stays (y ∷ zs) zs →
      HaveHeard (note ∷ []) (map known (x ∷ xs)) (map known ys)
  one-more x y xs zs ys true answered others is = record {
    answers = Some (known y) ∷ others.answers;
    each = (record { stays = (answered.0, answered.2); goes = goes-once (known x).last note true false refl answered.1 }, others.each);
    left = ap (map known) is ∙ ap (λ rest. known y ∷ rest) others.left;
  }
  one-more x y xs zs ys false answered others is = record {
    answers = None ∷ others.answers;
    each = (record { stays = tt; goes = goes-once (known x).last note false true refl answered.1 }, others.each);
    left = ap (map known) is ∙ others.left;
  }

  telling : {F : Type 0} (g : Mut F (MutBor X × Unit {0}) (Bool × (MutBor X × Unit {0}))) (f : F) →
      ((shown left : MutBor X) (stays : Bool) (after : F) → Called g f (shown, tt) (stays, (left, tt)) after →
      Answered note (known shown.now) stays (known left.now) × (after ≡ f)) →
      (xs ys : List X) → RetainsInTurn (CalledAtMut g) f xs ys → HaveHeard (note ∷ []) (map known xs) (map known ys)
  telling g f says [] ys left = record { answers = []; each = tt; left = ap (map known) left }
  telling g f says (x ∷ xs) ys left =
      let call = left.3 in
      let said = says call.shown call.left left.0 left.1 call.called in
      let answered = subst (λ before. Answered note (known before) left.0 (known left.2)) call.shows
      (subst (λ now. Answered note (known call.shown.now) left.0 (known now)) call.leaves said.0) in
      let later = subst (λ state. RetainsInTurn (CalledAtMut g) state xs left.4) said.1 left.5 in
      one-more x left.2 xs left.4 ys left.0 answered (telling g f says xs left.4 later) left.6

pub have-heard : {X F : Type 0} (g : Mut F (MutBor X × Unit {0}) (Bool × (MutBor X × Unit {0}))) (f : F) (xs ys : List X) →
    RetainsInTurn (CalledAtMut g) f xs ys → (known : X → Listening) (note : Note) →
    ((shown left : MutBor X) (stays : Bool) (after : F) → Called g f (shown, tt) (stays, (left, tt)) after →
    Answered note (known shown.now) stays (known left.now) × (after ≡ f)) →
    HaveHeard (note ∷ []) (map known xs) (map known ys)
have-heard g f xs ys left known note says = telling known note g f says xs ys left
