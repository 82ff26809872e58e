use Rattle.std.proofs.Common.{◌∙◌, sym}
use Rattle.ses_step.proofs.ReadyOnes.{line_ready, run_ready}
use Rattle.ses_step.proofs.session.Session.begin.Goals as goal

pub run-requires-clause-ready : goal.run-requires-clause-ready
run-requires-clause-ready c = line_ready c.args.catalogue.now c.args.self.now.known c.args.line.now c.args.from c.in-Runs.own (sym c.in-Runs.is ∙ c.in_ok-refusal.ensures)

pub returns-in-Runs-clause-ready : goal.returns-in-Runs-clause-ready
returns-in-Runs-clause-ready c =
    run_ready c.args.catalogue.now c.args.self.now.known c.in-Runs.own (line_ready c.args.catalogue.now c.args.self.now.known c.args.line.now c.args.from c.in-Runs.own (sym c.in-Runs.is ∙ c.in_ok-refusal.ensures)) c.run.result _ c.run.ensures.begun
