use Rattle.std.proofs.Common.{refl, Ok}
use Rattle.std.proofs.lemmas.Bool.{false≢true}
use Rattle.script_play.proofs.Lines.{line_whole, behind_answers}
use Rattle.script_play.proofs.Told.{told_same}
use Rattle.script_play.proofs.world.StoreWorld+Store+D.answer.Goals as goal

pub returns-then-is_empty-clause-responds : goal.returns-then-is_empty-clause-responds
returns-then-is_empty-clause-responds g c =
    line_whole g.D.Disk.faults g.D.Disk.clock g.D.Disk.crash c.args.line.now c.first_line.result c.args.self.now c.first_line.new.self (c.if-is_empty.ensures.0 refl) c.first_line.ensures.responds

pub returns-then-is_empty-clause-closes : goal.returns-then-is_empty-clause-closes
returns-then-is_empty-clause-closes g c = λ fails. (c.first_line.ensures.closes fails, c.if-is_empty.ensures.0 refl)

pub returns-in-Ok-clause-responds : goal.returns-in-Ok-clause-responds
returns-in-Ok-clause-responds g c =
    behind_answers g.D.Disk.faults g.D.Disk.clock g.D.Disk.crash c.args.line.now (Ok c.in-Ok.response) c.args.self.now c.block_line.new.self (λ is. false≢true (c.if-is_empty.ensures.1 is)) c.in-Ok.ensures.ok

pub returns-in-Ok-clause-told : goal.returns-in-Ok-clause-told
returns-in-Ok-clause-told g c = told_same _ c.args.self.now.store _ c.block_line.ensures.store

pub returns-in-Err-clause-told : goal.returns-in-Err-clause-told
returns-in-Err-clause-told g c = told_same _ c.args.self.now.store _ c.block_line.ensures.store
