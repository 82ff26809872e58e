-- The places that are to come, as the wheels turn.
use Rattle.std.proofs.Common.{not, subst, append_assoc, get_or, cond, ◌≡◌, ◌∙◌, ℕ, zero, suc, ◌+◌, ◌<◌, ◌≤◌, Bool as Truth, true, false, List, [], ◌∷◌, ◌++◌, length, map, drop, refl, sym, ap, arith}
use Rattle.std.specs.Prelude.{◌||◌, ◌==◌, flat_map, All, slice_index}
use Rattle.std.proofs.lemmas.Bool.{false≢true, ltb-false, ltb-true, ne_eqb}
use Rattle.std.proofs.lemmas.List.{drop_more, append-nil, get_or_at, set_at, get_or-set_same, map-set}
use Rattle.std.specs.List.{slice_set, list_any}
use Rattle.std.proofs.lemmas.List.Elements.{All-head, All-tail, All-nil, All-cons, All-set}
use Rattle.dml_loop.specs.Loops.{Place, places}
use Rattle.dml_loop.specs.inside.Turning.{AreAtLast, HasTurned}
use Rattle.dml_loop.specs.inside.Wheels.{WheelView, listed, IsWithin, standing, has_next, stepped, to_come, at_first}

-- what comes with the later slots of the first wheel, where `rest` are the places of the others
abbrev later : ℕ → List Place → List ℕ → List Place
later dimension rest slots = flat_map (λ slot. map (λ (place : Place). (dimension, slot) ∷ place) rest) slots

-- the first place to come is where the wheels stand
pub heads : (wheels : List WheelView) → to_come wheels ≡ map standing wheels ∷ drop 1 (to_come wheels)
heads [] = refl
heads (wheel ∷ wheels) = ap (λ (all : List Place). map (λ (place : Place). standing wheel ∷ place) all ++ later wheel.dimension (places (map listed wheels)) (drop (suc wheel.at) wheel.slots)) (heads wheels)
    ∙ ap (λ (all : List Place). (standing wheel ∷ map standing wheels) ∷ drop 1 (map (λ (place : Place). standing wheel ∷ place) all ++ later wheel.dimension (places (map listed wheels)) (drop (suc wheel.at) wheel.slots))) (sym (heads wheels))

pub next_place : (over : Truth) (place : Place) (wheels : List WheelView) → over ≡ false → place ≡ map standing wheels → cond over [] (to_come wheels) ≡ place ∷ drop 1 (cond over [] (to_come wheels))
next_place true place wheels e is = absurd (false≢true (sym e))
next_place false place wheels e is = heads wheels ∙ ap (λ (p : Place). p ∷ drop 1 (to_come wheels)) (sym is)

-- ---- the wheels behind the one that turns

pub lists-kept : (wheels : List WheelView) → map listed (map stepped wheels) ≡ map listed wheels
lists-kept [] = refl
lists-kept (wheel ∷ wheels) = ap (λ (lists : List (ℕ × List ℕ)). listed wheel ∷ lists) (lists-kept wheels)

drop-whole : (n : ℕ) (slots : List ℕ) → length slots ≤ n → drop n slots ≡ []
drop-whole zero [] less = refl
drop-whole zero (slot ∷ slots) less = absurd (omega arith)
drop-whole (suc n) [] less = refl
drop-whole (suc n) (slot ∷ slots) less = drop-whole n slots (omega arith)

drop-next : (slots : List ℕ) (n : ℕ) → n < length slots → drop n slots ≡ slice_index slots n ∷ drop (suc n) slots
drop-next slots n less = let on : n + 1 ≡ suc n = omega arith in drop_more slots n 0 less ∙ ap (λ (k : ℕ). slice_index slots n ∷ drop k slots) on

-- a wheel without a next slot stands at its last one
last-slot : (wheel : WheelView) → has_next wheel ≡ false → length wheel.slots ≤ suc wheel.at
last-slot wheel e = omega (arith, ltb-false (wheel.at + 1) (length wheel.slots) e)

-- at their last slots there is one place
pub at-last : (wheels : List WheelView) → AreAtLast wheels → to_come wheels ≡ map standing wheels ∷ []
at-last [] all = refl
at-last (wheel ∷ wheels) all =
    ap (λ (rest : List Place). map (λ (place : Place). standing wheel ∷ place) rest ++ later wheel.dimension (places (map listed wheels)) (drop (suc wheel.at) wheel.slots)) (at-last wheels all.1)
    ∙ ap (λ (slots : List ℕ). (standing wheel ∷ map standing wheels) ∷ later wheel.dimension (places (map listed wheels)) slots) (drop-whole (suc wheel.at) wheel.slots (last-slot wheel all.0))

-- at their first slots all places come
from-first : (dimension : ℕ) (slots : List ℕ) (at : ℕ) (rest all : List Place) → 0 < length slots → at ≡ 0 → rest ≡ all → map (λ (place : Place). (dimension, slice_index slots at) ∷ place) rest ++ later dimension all (drop (suc at) slots) ≡ later dimension all slots
from-first dimension [] at rest all less e is = absurd (omega arith)
from-first dimension (slot ∷ slots) at rest all less e is =
    ap (λ (n : ℕ). map (λ (place : Place). (dimension, slice_index (slot ∷ slots) n) ∷ place) rest ++ later dimension all (drop (suc n) (slot ∷ slots))) e
    ∙ ap (λ (xs : List Place). map (λ (place : Place). (dimension, slot) ∷ place) xs ++ later dimension all slots) is

-- behind their last slots they are at the first again, and all places come
pub first-again : (wheels : List WheelView) → AreAtLast wheels → All IsWithin wheels → to_come (map stepped wheels) ≡ places (map listed wheels)
first-again [] all within = refl
first-again (wheel ∷ wheels) all within =
    let here : wheel.at < length wheel.slots = All-head IsWithin wheel wheels within in
    let back : (stepped wheel).at ≡ 0 = ap (λ (t : Truth). cond t (wheel.at + 1) 0) all.0 in
    ap (λ (lists : List (ℕ × List ℕ)). map (λ (place : Place). standing (stepped wheel) ∷ place) (to_come (map stepped wheels)) ++ later wheel.dimension (places lists) (drop (suc (stepped wheel).at) wheel.slots)) (lists-kept wheels)
    ∙ from-first wheel.dimension wheel.slots (stepped wheel).at (to_come (map stepped wheels)) (places (map listed wheels)) (omega (arith, here)) back (first-again wheels all.1 (All-tail IsWithin wheel wheels within))

-- ---- the wheel that turns

-- the first wheel goes on, and those behind it begin again
goes-on-first : (wheel : WheelView) (wheels : List WheelView) → has_next wheel ≡ true → AreAtLast wheels → All IsWithin wheels → to_come (wheel ∷ wheels) ≡ map standing (wheel ∷ wheels) ∷ to_come (stepped wheel ∷ map stepped wheels)
goes-on-first wheel wheels more all within =
    let further : suc wheel.at < length wheel.slots = omega (arith, ltb-true (wheel.at + 1) (length wheel.slots) more) in
    let on : (stepped wheel).at ≡ wheel.at + 1 = ap (λ (t : Truth). cond t (wheel.at + 1) 0) more in
    let there : suc wheel.at ≡ (stepped wheel).at = omega (arith, on) in
    let rest : List Place = places (map listed wheels) in
    ap (λ (all : List Place). map (λ (place : Place). standing wheel ∷ place) all ++ later wheel.dimension rest (drop (suc wheel.at) wheel.slots)) (at-last wheels all)
    ∙ ap (λ (slots : List ℕ). map standing (wheel ∷ wheels) ∷ later wheel.dimension rest slots) (drop-next wheel.slots (suc wheel.at) further)
    ∙ ap (λ (n : ℕ). map standing (wheel ∷ wheels) ∷ (map (λ (place : Place). (wheel.dimension, slice_index wheel.slots n) ∷ place) rest ++ later wheel.dimension rest (drop (suc n) wheel.slots))) there
    ∙ ap (λ (xs : List Place). map standing (wheel ∷ wheels) ∷ (map (λ (place : Place). standing (stepped wheel) ∷ place) xs ++ later wheel.dimension rest (drop (suc (stepped wheel).at) wheel.slots))) (sym (first-again wheels all within))
    ∙ ap (λ (lists : List (ℕ × List ℕ)). map standing (wheel ∷ wheels) ∷ (map (λ (place : Place). standing (stepped wheel) ∷ place) (to_come (map stepped wheels)) ++ later wheel.dimension (places lists) (drop (suc (stepped wheel).at) wheel.slots))) (sym (lists-kept wheels))

same-lists : (front : List WheelView) (wheel : WheelView) (wheels : List WheelView) → map listed (front ++ stepped wheel ∷ map stepped wheels) ≡ map listed (front ++ wheel ∷ wheels)
same-lists [] wheel wheels = ap (λ (lists : List (ℕ × List ℕ)). listed wheel ∷ lists) (lists-kept wheels)
same-lists (other ∷ front) wheel wheels = ap (λ (lists : List (ℕ × List ℕ)). listed other ∷ lists) (same-lists front wheel wheels)

-- and those before it stay
pub goes-on : (front : List WheelView) (wheel : WheelView) (wheels : List WheelView) → has_next wheel ≡ true → AreAtLast wheels → All IsWithin wheels → to_come (front ++ wheel ∷ wheels) ≡ map standing (front ++ wheel ∷ wheels) ∷ to_come (front ++ stepped wheel ∷ map stepped wheels)
goes-on [] wheel wheels more all within = goes-on-first wheel wheels more all within
goes-on (other ∷ front) wheel wheels more all within =
    let before : List WheelView = front ++ wheel ∷ wheels in
    let after : List WheelView = front ++ stepped wheel ∷ map stepped wheels in
    let slots : List ℕ = drop (suc other.at) other.slots in
    ap (λ (all : List Place). map (λ (place : Place). standing other ∷ place) all ++ later other.dimension (places (map listed before)) slots) (goes-on front wheel wheels more all within)
    ∙ ap (λ (lists : List (ℕ × List ℕ)). (standing other ∷ map standing before) ∷ (map (λ (place : Place). standing other ∷ place) (to_come after) ++ later other.dimension (places lists) slots)) (sym (same-lists front wheel wheels))

-- ---- a turn, wheel by wheel

-- the wheel at a place, and those around it
pub record Cut (before now : List WheelView) (at : ℕ) : Type 0 where
  pub front : List WheelView
  pub wheel : WheelView
  pub back : List WheelView
  pub len : length front ≡ at
  pub were : before ≡ front ++ wheel ∷ back
  pub are : now ≡ front ++ wheel ∷ map stepped back
  pub last : AreAtLast back

pub record EndsIn (front : List WheelView) (at : ℕ) : Type 0 where
  pub most : List WheelView
  pub wheel : WheelView
  pub is : front ≡ most ++ wheel ∷ []
  pub len : length most ≡ at

ends-in : (front : List WheelView) (at : ℕ) → length front ≡ suc at → EndsIn front at
ends-in [] at e = absurd (omega (arith, e))
ends-in (wheel ∷ []) at e = record { most = []; wheel = wheel; is = refl; len = omega (arith, e) }
ends-in (wheel ∷ other ∷ front) zero e = absurd (omega (arith, e))
ends-in (wheel ∷ other ∷ front) (suc at) e =
    let rest : EndsIn (other ∷ front) at = ends-in (other ∷ front) at (omega (arith, e)) in
    record { most = wheel ∷ rest.most; wheel = rest.wheel; is = ap (λ (xs : List WheelView). wheel ∷ xs) rest.is; len = omega (arith, rest.len) }

cut : (before now : List WheelView) (at : ℕ) → HasTurned before now (suc at) → Cut before now at
cut before now at turned =
    let ends : EndsIn turned.front at = ends-in turned.front at turned.len in
    record {
      front = ends.most;
      wheel = ends.wheel;
      back = turned.back;
      len = ends.len;
      were = turned.were ∙ ap (λ (xs : List WheelView). xs ++ turned.back) ends.is ∙ append_assoc ends.most (ends.wheel ∷ []) turned.back;
      are = turned.are ∙ ap (λ (xs : List WheelView). xs ++ map stepped turned.back) ends.is ∙ append_assoc ends.most (ends.wheel ∷ []) (map stepped turned.back);
      last = turned.last;
    }

-- the wheel that is looked at
here : (before now : List WheelView) (at : ℕ) (d : WheelView) (c : Cut before now at) → get_or now at d ≡ c.wheel
here before now at d c = ap (λ (xs : List WheelView). get_or xs at d) c.are ∙ get_or_at c.front c.wheel (map stepped c.back) d at c.len

set-there : (before now : List WheelView) (at : ℕ) (wheel : WheelView) (c : Cut before now at) → slice_set now at wheel ≡ c.front ++ wheel ∷ map stepped c.back
set-there before now at wheel c = ap (λ (xs : List WheelView). slice_set xs at wheel) c.are ∙ set_at c.front c.wheel (map stepped c.back) wheel at c.len

pub turn-begins : (wheels : List WheelView) → HasTurned wheels wheels (length wheels)
turn-begins wheels = record { front = wheels; back = []; len = refl; were = sym (append-nil wheels); are = sym (append-nil wheels); last = tt }

-- a wheel that was at its last slot was turned, too
pub turns-further : (before now : List WheelView) (from at : ℕ) (wheel : WheelView) → HasTurned before now from → from ≡ suc at → get_or now at wheel ≡ wheel → has_next wheel ≡ false → HasTurned before (slice_set now at (stepped wheel)) at
turns-further before now from at wheel turned is there e =
    let c : Cut before now at = cut before now at (subst (λ (n : ℕ). HasTurned before now n) is turned) in
    let same : wheel ≡ c.wheel = sym there ∙ here before now at wheel c in
    record {
      front = c.front;
      back = wheel ∷ c.back;
      len = c.len;
      were = c.were ∙ ap (λ (w : WheelView). c.front ++ w ∷ c.back) (sym same);
      are = set-there before now at (stepped wheel) c;
      last = (e, c.last);
    }

within-behind : (front : List WheelView) (wheel : WheelView) (back : List WheelView) → All IsWithin (front ++ wheel ∷ back) → All IsWithin back
within-behind [] wheel back all = All-tail IsWithin wheel back all
within-behind (other ∷ front) wheel back all = within-behind front wheel back (All-tail IsWithin other (front ++ wheel ∷ back) all)

-- one with a next slot ends the turn
pub turn-goes_on : (before now : List WheelView) (from at : ℕ) (wheel : WheelView) → All IsWithin before → HasTurned before now from → from ≡ suc at → get_or now at wheel ≡ wheel → has_next wheel ≡ true → to_come before ≡ map standing before ∷ to_come (slice_set now at (stepped wheel))
turn-goes_on before now from at wheel within turned is there e =
    let c : Cut before now at = cut before now at (subst (λ (n : ℕ). HasTurned before now n) is turned) in
    let same : wheel ≡ c.wheel = sym there ∙ here before now at wheel c in
    let were : before ≡ c.front ++ wheel ∷ c.back = c.were ∙ ap (λ (w : WheelView). c.front ++ w ∷ c.back) (sym same) in
    let back : All IsWithin c.back = within-behind c.front wheel c.back (subst (λ (xs : List WheelView). All IsWithin xs) were within) in
    ap to_come were ∙ goes-on c.front wheel c.back e c.last back
    ∙ ap (λ (xs : List WheelView). map standing xs ∷ to_come (c.front ++ stepped wheel ∷ map stepped c.back)) (sym were)
    ∙ ap (λ (xs : List WheelView). map standing before ∷ to_come xs) (sym (set-there before now at (stepped wheel) c))

no-front : (front : List WheelView) → length front ≡ 0 → front ≡ []
no-front [] e = refl
no-front (wheel ∷ front) e = absurd (omega (arith, e))

-- where all were at their last slots no place comes any more
pub turn-ends : (before now : List WheelView) (at : ℕ) → at ≡ 0 → HasTurned before now at → to_come before ≡ map standing before ∷ []
turn-ends before now at end turned =
    let were : before ≡ turned.back = turned.were ∙ ap (λ (xs : List WheelView). xs ++ turned.back) (no-front turned.front (turned.len ∙ end)) in
    ap to_come were ∙ at-last turned.back turned.last ∙ ap (λ (xs : List WheelView). map standing xs ∷ []) (sym were)

-- a turned wheel is within its list
pub step-within : (wheel : WheelView) → IsWithin wheel → IsWithin (stepped wheel)
step-within wheel less = step-by wheel (has_next wheel) refl less
  where
    step-by : (wheel : WheelView) (t : Truth) → has_next wheel ≡ t → IsWithin wheel → cond (has_next wheel) (wheel.at + 1) 0 < length wheel.slots
    step-by wheel true e less = subst (λ (t : Truth). cond t (wheel.at + 1) 0 < length wheel.slots) (sym e) (ltb-true (wheel.at + 1) (length wheel.slots) e)
    step-by wheel false e less = subst (λ (t : Truth). cond t (wheel.at + 1) 0 < length wheel.slots) (sym e) (omega (arith, less))

-- ---- at the beginning

or-left : (a b : Truth) → (a || b) ≡ false → a ≡ false
or-left true b e = e
or-left false b e = refl

or-right : (a b : Truth) → (a || b) ≡ false → b ≡ false
or-right true b e = absurd (false≢true (sym e))
or-right false b e = e

or-other : (a b : Truth) → a ≡ false → (a || b) ≡ true → b ≡ true
or-other true b e h = absurd (false≢true (sym e))
or-other false b e h = h

has-slots : (slot : ℕ) (slots : List ℕ) → (length (slot ∷ slots) == 0) ≡ false
has-slots slot slots = ne_eqb (length (slot ∷ slots)) 0 (λ e. omega (arith, e))

of-none : (dimension : ℕ) (slots : List ℕ) → later dimension [] slots ≡ []
of-none dimension [] = refl
of-none dimension (slot ∷ slots) = of-none dimension slots

-- with an empty list there is no place
none-by : (dimension : ℕ) (slots : List ℕ) (rest : List Place) (others : Truth) → ((length slots == 0) || others) ≡ true → (others ≡ true → rest ≡ []) → later dimension rest slots ≡ []
none-by dimension [] rest others e none = refl
none-by dimension (slot ∷ slots) rest others e none =
    ap (λ (all : List Place). later dimension all (slot ∷ slots)) (none (or-other (length (slot ∷ slots) == 0) others (has-slots slot slots) e)) ∙ of-none dimension (slot ∷ slots)

pub none-with-empty : (lists : List (ℕ × List ℕ)) → list_any (λ (list : ℕ × List ℕ). length list.1 == 0) lists ≡ true → places lists ≡ []
none-with-empty [] e = absurd (false≢true e)
none-with-empty (list ∷ lists) e = none-by list.0 list.1 (places lists) (list_any (λ (other : ℕ × List ℕ). length other.1 == 0) lists) e (none-with-empty lists)

first-listed : (lists : List (ℕ × List ℕ)) → map listed (map at_first lists) ≡ lists
first-listed [] = refl
first-listed (list ∷ lists) = ap (λ (xs : List (ℕ × List ℕ)). list ∷ xs) (first-listed lists)

some-slots : (slots : List ℕ) → (length slots == 0) ≡ false → 0 < length slots
some-slots [] e = absurd (false≢true (sym e))
some-slots (slot ∷ slots) e = omega arith

pub all-within : (lists : List (ℕ × List ℕ)) → list_any (λ (list : ℕ × List ℕ). length list.1 == 0) lists ≡ false → All IsWithin (map at_first lists)
all-within [] e = All-nil IsWithin
all-within (list ∷ lists) e =
    let others : Truth = list_any (λ (other : ℕ × List ℕ). length other.1 == 0) lists in
    All-cons IsWithin (at_first list) (map at_first lists) (some-slots list.1 (or-left (length list.1 == 0) others e)) (all-within lists (or-right (length list.1 == 0) others e))

-- at their first slots all places are to come
pub begins : (lists : List (ℕ × List ℕ)) → list_any (λ (list : ℕ × List ℕ). length list.1 == 0) lists ≡ false → to_come (map at_first lists) ≡ places lists
begins [] e = refl
begins (list ∷ lists) e =
    let others : Truth = list_any (λ (other : ℕ × List ℕ). length other.1 == 0) lists in
    ap (λ (xs : List (ℕ × List ℕ)). map (λ (place : Place). standing (at_first list) ∷ place) (to_come (map at_first lists)) ++ later list.0 (places xs) (drop 1 list.1)) (first-listed lists)
    ∙ from-first list.0 list.1 0 (to_come (map at_first lists)) (places lists) (some-slots list.1 (or-left (length list.1 == 0) others e)) refl (begins lists (or-right (length list.1 == 0) others e))

-- ---- what a turn writes

length-cut : (front : List WheelView) (wheel : WheelView) (back : List WheelView) → length front < length (front ++ wheel ∷ back)
length-cut [] wheel back = omega arith
length-cut (other ∷ front) wheel back = omega (arith, length-cut front wheel back)

pub turn-within : (before now : List WheelView) (from at : ℕ) → HasTurned before now from → from ≡ suc at → at < length now
turn-within before now from at turned is =
    let c : Cut before now at = cut before now at (subst (λ (n : ℕ). HasTurned before now n) is turned) in
    let longer : length c.front < length (c.front ++ c.wheel ∷ map stepped c.back) = length-cut c.front c.wheel (map stepped c.back) in
    let same : length now ≡ length (c.front ++ c.wheel ∷ map stepped c.back) = ap (λ (xs : List WheelView). length xs) c.are in
    let len : length c.front ≡ at = c.len in
    omega (arith, longer, same, len)

pub within-there : (now : List WheelView) (at : ℕ) (wheel next : WheelView) → at < length now → get_or now at wheel ≡ wheel → next ≡ stepped wheel → All IsWithin now → All IsWithin (slice_set now at next)
within-there now at wheel next less there is all =
    let one : IsWithin wheel = subst (λ (w : WheelView). IsWithin w) there (all at wheel less) in
    All-set IsWithin now at next (subst (λ (w : WheelView). IsWithin w) (sym is) (step-within wheel one)) all

pub stands-there : (now : List WheelView) (place : Place) (at : ℕ) (next read : WheelView) (entry : ℕ × ℕ) → at < length now → place ≡ map standing now → get_or (slice_set now at next) at read ≡ read → entry ≡ standing read → slice_set place at entry ≡ map standing (slice_set now at next)
stands-there now place at next read entry less is there e =
    let same : read ≡ next = sym there ∙ get_or-set_same now at next read less in
    ap (λ (p : Place). slice_set p at entry) is ∙ ap (λ (x : ℕ × ℕ). slice_set (map standing now) at x) (e ∙ ap standing same) ∙ sym (map-set standing now at next)

pub turned-set : (before now : List WheelView) (at : ℕ) (wheel next : WheelView) → next ≡ stepped wheel → HasTurned before (slice_set now at (stepped wheel)) at → HasTurned before (slice_set now at next) at
turned-set before now at wheel next is turned = subst (λ (w : WheelView). HasTurned before (slice_set now at w) at) (sym is) turned

pub advanced : (before after : List WheelView) (more : Truth) → to_come before ≡ map standing before ∷ cond more (to_come after) [] → cond (not more) [] (to_come after) ≡ drop 1 (to_come before)
advanced before after true is = ap (λ (all : List Place). drop 1 all) (sym is)
advanced before after false is = ap (λ (all : List Place). drop 1 all) (sym is)
