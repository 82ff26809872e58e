use Rattle.std.proofs.Common.{◌∙◌, sym}
use Rattle.script_play.proofs.Drafting.{unbuilt_so}
use Rattle.script_play.proofs.draft.draft_tree.Goals as goal

pub returns-in-Some-clause-ok : goal.returns-in-Some-clause-ok
returns-in-Some-clause-ok c = unbuilt_so c.args.tree c.in-Some.refusal c.args.drafted.now (sym c.in-Some.is ∙ c.in_ok-refusal.ensures)
