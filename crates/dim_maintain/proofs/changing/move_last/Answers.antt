use Rattle.std.proofs.Common.{ℕ, ◌≡◌, ◌-◌, Some, None, option_map, slice_get, length, sym, subst, ◌∙◌, ap, rules}
use Rattle.aw_dim.specs.DimensionState.{Entry, DimensionState, HasSlot}
use Rattle.aw_dim.specs.Edits as edit
use Rattle.dim_maintain.proofs.Apart.{on_ok}
use Rattle.dim_maintain.proofs.ByName.{last_place, last_slot, last_there, moved_last}
use Rattle.dim_maintain.proofs.changing.move_last.Goals as goal

pub returns-in-Some-clause-entries : goal.returns-in-Some-clause-entries
returns-in-Some-clause-entries c = λ rest last is.
    let at : c.len.result - 1 ≡ length rest = last_place c.args.made.now c.is_dimension.ensures rest last is c.len.result c.len.ensures.value in
    let slot : c.in-Some.slot ≡ last.0 = (let e : Some c.in-Some.slot ≡ Some last.0 = sym c.in-Some.is ∙ c.at.ensures ∙ ap (λ (k : ℕ). option_map (λ (entry : Entry). entry.0) (slice_get c.args.made.now.entries k)) at ∙ last_slot c.args.made.now c.is_dimension.ensures rest last is in cc) in
    let there : HasSlot c.args.made.now c.in-Some.slot = subst (λ (s : ℕ). HasSlot c.args.made.now s) (sym slot) (last_there c.args.made.now c.is_dimension.ensures rest last is) in
    ap (λ (d : DimensionState). d.entries)
    (on_ok c.move_to.result (c.move_to.ensures.some.1 there) c.move_to.ensures.ok
    ∙ ap (λ (s : ℕ). edit.moved c.args.made.now s c.args.at) slot
    ∙ moved_last c.args.made.now c.is_dimension.ensures rest last is c.args.at)

pub returns-in_default-clause-entries : goal.returns-in_default-clause-entries
returns-in_default-clause-entries c = λ rest last is.
    let at : c.len.result - 1 ≡ length rest = last_place c.args.made.now c.is_dimension.ensures rest last is c.len.result c.len.ensures.value in
    let none : c.at.result ≡ None = search rules in
    let e : None ≡ Some last.0 = sym none ∙ c.at.ensures ∙ ap (λ (k : ℕ). option_map (λ (entry : Entry). entry.0) (slice_get c.args.made.now.entries k)) at ∙ last_slot c.args.made.now c.is_dimension.ensures rest last is in
    absurd cc
