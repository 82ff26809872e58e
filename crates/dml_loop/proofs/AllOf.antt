-- One after the other, up to the first refusal, with what was done so far.
use Rattle.std.proofs.Common.{◌≡◌, ◌∙◌, ℕ, ◌+◌, ◌<◌, ◌≤◌, List, [], ◌∷◌, ◌++◌, length, get_or, drop, Result, Ok, Err, refl, sym, ap, subst, append_assoc}
use Rattle.std.specs.Prelude.{All}
use Rattle.std.proofs.lemmas.List.Elements.{All-tail}
use Rattle.std.proofs.lemmas.List.{append-nil}
use Rattle.std.proofs.lemmas.List.{at_drop_more, at_drop_all}
use Rattle.dml_loop.specs.declared.fault.LoopFault.{LoopFault}
use Rattle.dml_loop.specs.declared.fault.LoopFault.TheVariants.{Arith, NoValue, Empty, TooMany, NoMemory}
use Rattle.dml_loop.specs.Fixes.{Answers}
use Rattle.dml_loop.specs.Loops.{all_of, on_ok, ok_map}
use Rattle.dml_loop.specs.inside.Progress.{behind}

pub behind-none : {A E : Type 0} (answer : Result (List A) E) → behind [] answer ≡ answer
behind-none (Ok xs) = refl
behind-none (Err why) = refl

behind-one : {A E : Type 0} (done : List A) (y : A) (answer : Result (List A) E) → behind done (ok_map (λ (ys : List A). y ∷ ys) answer) ≡ behind (done ++ y ∷ []) answer
behind-one done y (Ok ys) = ap Ok (sym (append_assoc done (y ∷ []) ys))
behind-one done y (Err why) = refl

-- one more
pub behind-more : {A B E : Type 0} (f : A → Result B E) (done : List B) (x : A) (xs : List A) (y : B) → f x ≡ Ok y → behind done (all_of f (x ∷ xs)) ≡ behind (done ++ y ∷ []) (all_of f xs)
behind-more {A} {B} {E} f done x xs y is = ap (λ (r : Result B E). behind done (on_ok (λ (z : B). ok_map (λ (ys : List B). z ∷ ys) (all_of f xs)) r)) is ∙ behind-one done y (all_of f xs)

-- the next one is refused
pub behind-refused : {A B E : Type 0} (f : A → Result B E) (done : List B) (x : A) (xs : List A) (why : E) → f x ≡ Err why → behind done (all_of f (x ∷ xs)) ≡ Err why
behind-refused {A} {B} {E} f done x xs why is = ap (λ (r : Result B E). behind done (on_ok (λ (z : B). ok_map (λ (ys : List B). z ∷ ys) (all_of f xs)) r)) is

-- none is left
pub behind-all : {A B E : Type 0} (f : A → Result B E) (done : List B) → behind done (all_of f []) ≡ Ok done
behind-all f done = ap Ok (append-nil done)

-- the same at a place in a list
pub behind_at-more : {A B E : Type 0} (f : A → Result B E) (done : List B) (xs : List A) (at : ℕ) (d : A) (y : B) → at < length xs → f (get_or xs at d) ≡ Ok y → behind done (all_of f (drop at xs)) ≡ behind (done ++ y ∷ []) (all_of f (drop (at + 1) xs))
behind_at-more {A} f done xs at d y within is =
    at_drop_more (λ (zs : List A). behind done (all_of f zs)) xs at d within ∙ behind-more f done (get_or xs at d) (drop (at + 1) xs) y is

pub behind_at-refused : {A B E : Type 0} (f : A → Result B E) (done : List B) (xs : List A) (at : ℕ) (d : A) (why : E) → at < length xs → f (get_or xs at d) ≡ Err why → behind done (all_of f (drop at xs)) ≡ Err why
behind_at-refused {A} f done xs at d why within is =
    at_drop_more (λ (zs : List A). behind done (all_of f zs)) xs at d within ∙ behind-refused f done (get_or xs at d) (drop (at + 1) xs) why is

pub behind_at-all : {A B E : Type 0} (f : A → Result B E) (done : List B) (xs : List A) (at : ℕ) → length xs ≤ at → behind done (all_of f (drop at xs)) ≡ Ok done
behind_at-all {A} f done xs at end = at_drop_all (λ (zs : List A). behind done (all_of f zs)) xs at end ∙ behind-all f done

-- ---- answers

pub answers-err : {A : Type 0} (meant : Result A LoopFault) (why : LoopFault) → meant ≡ Err why → Answers meant (Err why)
answers-err meant (Arith a) is = is
answers-err meant (NoValue value) is = is
answers-err meant (Empty dimension) is = is
answers-err meant TooMany is = is
answers-err meant NoMemory is = tt

pub answers-same : {A : Type 0} (meant other : Result A LoopFault) (answer : Result A LoopFault) → meant ≡ other → Answers meant answer → Answers other answer
answers-same {A} meant other answer is h = subst (λ (r : Result A LoopFault). Answers r answer) is h

-- ---- over a list that gets shorter

pub fill-more : {A B E : Type 0} (f : A → Result B E) (before after : List B) (all rest : List A) (x : A) (y : B) (start : Result (List B) E) → all ≡ x ∷ drop 1 all → rest ≡ drop 1 all → Ok y ≡ f x → after ≡ before ++ y ∷ [] → behind before (all_of f all) ≡ start → behind after (all_of f rest) ≡ start
fill-more {A} {B} f before after all rest x y start first others is more so_far =
    ap (λ (done : List B). behind done (all_of f rest)) more
    ∙ ap (λ (left : List A). behind (before ++ y ∷ []) (all_of f left)) others
    ∙ sym (behind-more f before x (drop 1 all) y (sym is))
    ∙ ap (λ (left : List A). behind before (all_of f left)) (sym first)
    ∙ so_far

pub each-left : {A : Type 0} (P : A → Type 0) (all rest : List A) (x : A) → all ≡ x ∷ drop 1 all → rest ≡ drop 1 all → All P all → All P rest
each-left {A} P all rest x first others each =
    subst (λ (left : List A). All P left) (sym others) (All-tail P x (drop 1 all) (subst (λ (left : List A). All P left) first each))

-- ---- which answer it is

pub ok-same : {A : Type 0} (a b : A) → ◌≡◌ {A = Result A LoopFault} (Ok a) (Ok b) → a ≡ b
ok-same a b e = cc

pub err-same : {A : Type 0} (one other : LoopFault) → ◌≡◌ {A = Result A LoopFault} (Err one) (Err other) → one ≡ other
err-same one other e = cc

pub err-ok : {A : Type 0} (why : LoopFault) (a : A) → ◌≡◌ {A = Result A LoopFault} (Err why) (Ok a) → ⊥
err-ok why a e = cc

pub ok-err : {A : Type 0} (a : A) (why : LoopFault) → ◌≡◌ {A = Result A LoopFault} (Ok a) (Err why) → ⊥
ok-err a why e = cc
