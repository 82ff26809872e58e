use Rattle.std.proofs.Common.{rules, ◌≡◌, ◌∙◌}
use Rattle.aw_cell.specs.Names.{lowercase}
use Rattle.ses_step.proofs.names.Names.find.Goals as goal

pub returns : goal.returns
returns c =
    let lowered : c.make_ascii_lowercase.new.self ≡ lowercase c.args.word.now = search rules in
    rw (← c.self.view_is) (c.copied.ensures ∙ rw lowered at c.get.ensures.value ∙ c.self.invariant (lowercase c.args.word.now))
