use Rattle.std.proofs.Common.{◌≡◌, ◌∙◌, ◌+◌, ◌∷◌, [], ◌++◌, ℕ, List, length, take, get_or, refl, sym, ap, subst, arith}
use Rattle.std.proofs.Math.ListN.{length-set}
use Rattle.aw_rel.specs.inside.Tables.{parent_at, children_at, AreChildren}
use Rattle.aw_rel.proofs.Filling.{at_index, AreChildren-more, AreChildren-none}
use Rattle.aw_rel.proofs.tables.children_of.Goals as goal
use Rattle.aw_rel.proofs.tables.children_of.Goals.{in-Some+in_ok-add_child, in_default}

pub bounds : goal.bounds
bounds c = c.requires.value c.from.result (at_index c.args.slots.now c.loop-slot.slot-index c.from.result c.loop-slot-test.true c.from.ensures)

pub add_child-requires : goal.add_child-requires
add_child-requires c =
    let below = c.requires.parent c.from.result c.in-Some.parent c.in-Some.is in
    omega (arith, below, c.loop-slot.invariant.1)

pub loop-slot-preserved : goal.loop-slot-preserved
loop-slot-preserved c =
    let at = c.loop-slot.slot-index in
    let slot = get_or c.args.slots.now at 0 in
    elim c.match-parents-from.branch [
      | in-Some+in_ok-add_child w ↦
          let above = w.in-Some.parent in
          let below = c.requires.parent c.from.result above w.in-Some.is in
          subst (λ (t : List (List ℕ)). AreChildren c.args.parents.now (take (at + 1) c.args.slots.now) t × (length t ≡ length c.args.parents.now)) (sym (w.children-is ∙ w.in_ok-add_child.ensures)) (
            AreChildren-more c.args.parents.now c.args.slots.now at slot above c.loop-slot.children c.loop-slot-test.true refl (ap (parent_at c.args.parents.now) (sym c.from.ensures) ∙ w.in-Some.is) (omega (arith, below, c.loop-slot.invariant.1)) c.loop-slot.invariant.0,
            length-set c.loop-slot.children above (children_at c.loop-slot.children above ++ slot ∷ []) ∙ c.loop-slot.invariant.1,
          )
      | in_default w ↦
          subst (λ (t : List (List ℕ)). AreChildren c.args.parents.now (take (at + 1) c.args.slots.now) t × (length t ≡ length c.args.parents.now)) (sym w.children-is) (
            AreChildren-none c.args.parents.now c.args.slots.now at slot c.loop-slot.children c.loop-slot-test.true refl (ap (parent_at c.args.parents.now) (sym c.from.ensures) ∙ w.in_default.is) c.loop-slot.invariant.0,
            c.loop-slot.invariant.1,
          )
    ]
