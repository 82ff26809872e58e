use Rattle.mv_core.proofs.CallerLemmas.{IsLegal-from_answered, length-answered, definitions-answered, memory-answered}
use Rattle.mv_core.proofs.Refusals.{AreTrue-answered, IsKept-answered}
use Rattle.mv_core.proofs.shared.Shared.act.Goals as goal

pub returns-clause-step : goal.returns-clause-step
returns-clause-step c = λ w numbers firsts stands.
    IsLegal-from_answered w.definitions numbers firsts w c.args.entry.now c.answer.result c.args.self.now c.answer.new.self stands c.answer.ensures

pub returns-clause-memory : goal.returns-clause-memory
returns-clause-memory c =
    memory-answered c.args.self.now c.args.entry.now c.answer.result c.answer.new.self c.answer.ensures

pub returns-clause-definitions : goal.returns-clause-definitions
returns-clause-definitions c =
    definitions-answered c.args.self.now c.args.entry.now c.answer.result c.answer.new.self c.answer.ensures

pub returns-clause-count : goal.returns-clause-count
returns-clause-count c =
    length-answered c.args.self.now c.args.entry.now c.answer.result c.answer.new.self c.answer.ensures

pub returns-clause-kept : goal.returns-clause-kept
returns-clause-kept c =
    IsKept-answered c.args.self.now c.args.entry.now c.answer.result c.answer.new.self c.answer.ensures

pub returns-clause-owned : goal.returns-clause-owned
returns-clause-owned c =
    (AreTrue-answered c.args.self.now c.args.entry.now c.answer.result c.answer.new.self c.answer.ensures).0

pub returns-clause-newer : goal.returns-clause-newer
returns-clause-newer c =
    (AreTrue-answered c.args.self.now c.args.entry.now c.answer.result c.answer.new.self c.answer.ensures).1

pub returns-clause-stranger : goal.returns-clause-stranger
returns-clause-stranger c =
    (AreTrue-answered c.args.self.now c.args.entry.now c.answer.result c.answer.new.self c.answer.ensures).2

pub returns-clause-worn : goal.returns-clause-worn
returns-clause-worn c =
    (AreTrue-answered c.args.self.now c.args.entry.now c.answer.result c.answer.new.self c.answer.ensures).3
