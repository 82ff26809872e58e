use Rattle.std.proofs.Common.{◌≡◌, drop}
use Rattle.aw_var.specs.CellPatch.{overwritten}
use Rattle.aw_body.specs.BodyPatches.{AreChangesOf}
use Rattle.mv_view.proofs.writing.with_cells.Given as goal

abbrev pub invariant-loop-at : goal.invariant-loop-at
invariant-loop-at l = record {
  slots : l.newer.slots ≡ l.variable.slots;
  kind : l.newer.kind ≡ l.variable.kind;
  cells : overwritten l.newer.cells (drop l.at-index l.cells) ≡ overwritten l.variable.cells l.cells;
  changes : AreChangesOf l.variable (drop l.at-index l.cells);
}
