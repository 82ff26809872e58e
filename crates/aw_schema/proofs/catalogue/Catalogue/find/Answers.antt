use Rattle.std.proofs.Common.{rules, ◌≡◌, ◌∙◌}
use Rattle.aw_cell.specs.Names.{lowercase}
use Rattle.aw_schema.proofs.callers.Finding.{object_of-indexed}
use Rattle.aw_schema.proofs.catalogue.Catalogue.find.Goals as goal

pub returns-in-Some : goal.returns-in-Some
returns-in-Some c =
    let lowered : c.make_ascii_lowercase.new.self ≡ lowercase c.args.name.now = search rules in
    rw (← c.self.view_is) (c.in-Some.ensures.index ∙ object_of-indexed c.self.inside.defs _ c.args.name.now lowered c.self.invariant.names)

pub returns-in-None : goal.returns-in-None
returns-in-None c =
    let lowered : c.make_ascii_lowercase.new.self ≡ lowercase c.args.name.now = search rules in
    rw (← c.self.view_is) (c.in-None.ensures.index ∙ object_of-indexed c.self.inside.defs _ c.args.name.now lowered c.self.invariant.names)
