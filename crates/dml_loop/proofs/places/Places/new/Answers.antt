use Rattle.std.proofs.Common.{◌∙◌, List, map, sym, ap, subst}
use Rattle.std.specs.Prelude.{All}
use Rattle.dml_loop.specs.inside.Wheels.{WheelView, to_come, standing, IsWithin}
use Rattle.dml_loop.proofs.WheelTurns.{none-with-empty, all-within, begins}
use Rattle.dml_loop.proofs.places.Places.new.Goals as goal

pub returns-then-has_empty : goal.returns-then-has_empty
returns-then-has_empty c = sym (none-with-empty c.args.lists.now (sym c.has_empty.ensures ∙ c.if-has_empty.true))

pub place_of-requires : goal.place_of-requires
place_of-requires c = subst (λ (wheels : List WheelView). All IsWithin wheels) (sym (c.as_slice.ensures.value ∙ c.in_ok-wheels.ensures)) (all-within c.args.lists.now (sym c.has_empty.ensures ∙ c.if-has_empty.false))

pub invariant_of-result-2 : goal.invariant_of-result-2
invariant_of-result-2 c = (
  c.in_ok-place.ensures ∙ ap (λ (wheels : List WheelView). map standing wheels) c.as_slice.ensures.value,
  subst (λ (wheels : List WheelView). All IsWithin wheels) (sym c.in_ok-wheels.ensures) (all-within c.args.lists.now (sym c.has_empty.ensures ∙ c.if-has_empty.false)),
)

pub returns : goal.returns
returns c = ap (λ (wheels : List WheelView). to_come wheels) c.in_ok-wheels.ensures ∙ begins c.args.lists.now (sym c.has_empty.ensures ∙ c.if-has_empty.false)
