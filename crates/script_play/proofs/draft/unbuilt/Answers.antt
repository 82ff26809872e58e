use Rattle.script_play.proofs.Drafting.{formula_told}
use Rattle.script_play.proofs.draft.unbuilt.Goals as goal

pub returns-in-Ok : goal.returns-in-Ok
returns-in-Ok c = formula_told c.args.drafted.now c.args.tree.now c.in-Formula.expr c.in-Formula.field-1 c.in-Formula.field-2 c.in-Ok.refusal c.in-Formula.is c.in-Ok.ensures
