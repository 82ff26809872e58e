-- Events behind others, and one more byte of the script.
use Rattle.std.specs.Prelude.{map}
use Rattle.std.specs.Str.Lines.{strip_carriage_return}
use Rattle.std.proofs.Common.{◌≡◌, ◌||◌, ℕ, Bool, true, false, cond, eqb, List, [], ◌∷◌, ◌++◌, refl, sym, ap, ◌∙◌, append_assoc}
use Rattle.script_world.specs.Script.{ended_lines, open_line}
use Rattle.script_world.proofs.callers.ScriptLaws.{ended_lines-push, ended_more}
use Rattle.script_world.specs.Meaning.{Meaning}
use Rattle.script_world.specs.Worlds.{World, Machine, Event, line, answered, text_of, any_refused, is_refused, world_after, ended_events}

or_assoc : (a b c : Bool) → (a || (b || c)) ≡ ((a || b) || c)
or_assoc true b c = refl
or_assoc false b c = refl

module _ {m : Meaning} {S : Type 0} (machine : Machine m S) where
  pub text_of-append : (w : World m S) (events more : List Event) → text_of machine w (events ++ more) ≡ text_of machine w events ++ text_of machine (world_after machine w events) more
  text_of-append w [] more = refl
  text_of-append w (event ∷ events) more =
      let a = answered machine w event in
      ap (λ text. a.text ++ text) (text_of-append a.world events more) ∙ sym (append_assoc a.text _ _)

  pub any_refused-append : (w : World m S) (events more : List Event) → any_refused machine w (events ++ more) ≡ (any_refused machine w events || any_refused machine (world_after machine w events) more)
  any_refused-append w [] more = refl
  any_refused-append w (event ∷ events) more =
      let a = answered machine w event in
      ap (λ refused. is_refused a.answer || refused) (any_refused-append a.world events more) ∙ or_assoc (is_refused a.answer) _ _

  pub world_after-append : (w : World m S) (events more : List Event) → world_after machine w (events ++ more) ≡ world_after machine (world_after machine w events) more
  world_after-append w [] more = refl
  world_after-append w (event ∷ events) more = world_after-append (answered machine w event).world events more

pub map-append : {A B : Type 0} (f : A → B) (xs ys : List A) → map f (xs ++ ys) ≡ map f xs ++ map f ys
map-append f [] ys = refl
map-append f (x ∷ xs) ys = ap (λ rest. f x ∷ rest) (map-append f xs ys)

-- a LF adds the open line as an event, and any other byte adds none
pub ended_events-push : (bytes : List ℕ) (b : ℕ) → ended_events (bytes ++ b ∷ []) ≡ cond (eqb b 10) (ended_events bytes ++ line (strip_carriage_return (open_line bytes)) ∷ []) (ended_events bytes)
ended_events-push bytes b = ap (map line) (ended_lines-push bytes b) ∙ by_end (eqb b 10)
  where
    by_end : (ends : Bool) → map line (cond ends (ended_lines bytes ++ strip_carriage_return (open_line bytes) ∷ []) (ended_lines bytes)) ≡ cond ends (ended_events bytes ++ line (strip_carriage_return (open_line bytes)) ∷ []) (ended_events bytes)
    by_end true = map-append line (ended_lines bytes) (strip_carriage_return (open_line bytes) ∷ [])
    by_end false = refl

-- more bytes add events behind those that ended
pub record MoreEvents (bytes more : List ℕ) : Type 0 where
  pub events : List Event
  pub is : ended_events (bytes ++ more) ≡ ended_events bytes ++ events

pub more_events : (bytes more : List ℕ) → MoreEvents bytes more
more_events bytes more =
    let it = ended_more bytes more in
    record { events = map line it.lines; is = ap (map line) it.is ∙ map-append line (ended_lines bytes) it.lines }
