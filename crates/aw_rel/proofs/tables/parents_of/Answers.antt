use Rattle.std.proofs.Common.{◌≡◌, ◌∙◌, ℕ, Option, [], ◌∷◌, ◌+◌, take, slice_set, sym, ap, subst, arith}
use Rattle.std.proofs.Math.ListN.{length-set}
use Rattle.aw_var.specs.CellMap.{cell_at}
use Rattle.aw_rel.specs.Hierarchy.{parent_of}
use Rattle.aw_rel.specs.inside.Tables.{AreParents}
use Rattle.aw_rel.proofs.Filling.{at_index, AreParents-more}
use Rattle.aw_rel.proofs.tables.parents_of.Goals as goal

pub index_mut-requires : goal.index_mut-requires
index_mut-requires c =
    let below = c.requires.room c.from.result (at_index c.args.slots.now c.loop-slot.slot-index c.from.result c.loop-slot-test.true c.from.ensures) in
    omega (arith, below, c.loop-slot.invariant.1, c.loop-slot.parents.ok.0)

pub loop-slot-preserved : goal.loop-slot-preserved
loop-slot-preserved c =
    let below = c.requires.room c.from.result (at_index c.args.slots.now c.loop-slot.slot-index c.from.result c.loop-slot-test.true c.from.ensures) in
    let parent = λ (slot : ℕ). parent_of c.args.dimension.now (cell_at c.args.relation.now.cells (slot ∷ [])) in
    let value : c.parent_in-parent.result ≡ parent c.from.result =
    c.parent_in-parent.ensures ∙ ap (parent_of c.args.dimension.now) (c.get.ensures ∙ ap (cell_at c.args.relation.now.cells) (c.key_of.ensures ∙ ap (λ (n : ℕ). n ∷ []) (sym c.from.ensures))) in (
      subst (λ (v : Option ℕ). AreParents parent (take (c.loop-slot.slot-index + 1) c.args.slots.now) (slice_set c.loop-slot.parents.items c.from.result v)) (sym value)
          (AreParents-more parent c.args.slots.now c.loop-slot.slot-index c.from.result c.loop-slot.parents.items c.loop-slot-test.true c.from.ensures (omega (arith, below, c.loop-slot.invariant.1)) c.loop-slot.invariant.0),
      length-set c.loop-slot.parents.items c.from.result c.parent_in-parent.result ∙ c.loop-slot.invariant.1,
    )
