use Rattle.std.proofs.Common.{◌≡◌, drop}
use Rattle.aw_var.specs.CellPatch.{overwritten}
use Rattle.aw_body.specs.BodyPatches.{AreChangesOf}
use Rattle.aw_body.proofs.applying.overwritten.Given as goal

abbrev pub invariant-loop-at : goal.invariant-loop-at
invariant-loop-at l = record {
  slots : l.newer.slots ≡ l.variable.slots;
  kind : l.newer.kind ≡ l.variable.kind;
  cells : overwritten l.newer.cells (drop l.at-index l.at-items) ≡ overwritten l.variable.cells l.at-items;
  changes : AreChangesOf l.variable (drop l.at-index l.at-items);
}
