-- Whether a line is refused, told by the answers.
use Rattle.std.specs.Prelude.{◌≡◌, ◌||◌, ◌⊎◌, zero, suc, Bool, true, false, List, [], ◌∷◌, Option, Some, None, is_some, refl}
use Rattle.std.proofs.Common.{◌∙◌, ap, sym, inl, inr, ⊎_elim}
use Rattle.std.proofs.lemmas.Bool.{true≢false}
use Rattle.std.proofs.lemmas.Option.{none-some, same_Some}
use Rattle.ses_report.specs.declared.refusal.Refusal.{Refusal}
use Rattle.ses_report.specs.Reports.{Answer}
use Rattle.script_world.specs.Meaning.{Meaning}
use Rattle.script_world.specs.Worlds.{answers_of, NoneRefused, SomeRefused, World, Machine, Event, is_refused, answered, any_refused}

neither : (one other : Bool) → (one || other) ≡ false → (one ≡ false) × (other ≡ false)
neither false false none = (refl, refl)
neither false true none = absurd (true≢false none)
neither true other none = absurd (true≢false none)

either : (one other : Bool) → (one || other) ≡ true → (one ≡ true) ⊎ (other ≡ true)
either true other some = inl refl
either false true some = inr refl
either false false some = absurd (true≢false (sym some))

no-refusal : (refusal : Option Refusal) → is_some refusal ≡ false → refusal ≡ None
no-refusal None none = refl
no-refusal (Some refusal) none = absurd (true≢false none)

unrefused : (given : Option Answer) (answer : Answer) → given ≡ Some answer → is_refused given ≡ false → answer.refusal ≡ None
unrefused None answer is none = absurd (none-some answer is)
unrefused (Some given) answer is none = ap (λ (it : Answer). it.refusal) (sym (same_Some given answer is)) ∙ no-refusal given.refusal none

refused-first : (given : Option Answer) (answers : List (Option Answer)) → is_refused given ≡ true → SomeRefused (given ∷ answers)
refused-first None answers some = absurd (true≢false (sym some))
refused-first (Some given) answers some = by_refusal given.refusal refl
  where
    by_refusal : (refusal : Option Refusal) → given.refusal ≡ refusal → SomeRefused (Some given ∷ answers)
    by_refusal None is = absurd (true≢false (sym some ∙ ap is_some is))
    by_refusal (Some refusal) is = record { at = 0; answer = given; refusal = refusal; is = refl; refuses = is }

module _ {m : Meaning} {S : Type 0} (machine : Machine m S) where
  pub none_refused : (w : World m S) (events : List Event) → any_refused machine w events ≡ false → NoneRefused (answers_of machine w events)
  none_refused w [] none at answer is = absurd (none-some (Some answer) is)
  none_refused w (event ∷ events) none zero answer is =
      let a = answered machine w event in
      unrefused a.answer answer (same_Some a.answer (Some answer) is) (neither (is_refused a.answer) (any_refused machine a.world events) none).0
  none_refused w (event ∷ events) none (suc at) answer is =
      let a = answered machine w event in
      none_refused a.world events (neither (is_refused a.answer) (any_refused machine a.world events) none).1 at answer is

  pub some_refused : (w : World m S) (events : List Event) → any_refused machine w events ≡ true → SomeRefused (answers_of machine w events)
  some_refused w [] some = absurd (true≢false (sym some))
  some_refused w (event ∷ events) some =
      let a = answered machine w event in
      ⊎_elim (refused-first a.answer (answers_of machine a.world events)) (λ later.
      let it = some_refused a.world events later in
      let those : SomeRefused (a.answer ∷ answers_of machine a.world events) = record { at = suc it.at; answer = it.answer; refusal = it.refusal; is = it.is; refuses = it.refuses } in
      those) (either (is_refused a.answer) (any_refused machine a.world events) some)
