use Rattle.std.proofs.Common.{◌≡◌, ℕ, ◌∙◌, ap, sym, subst, length, OnOk}
use Rattle.aw_lists.specs.Coord.{packed}
use Rattle.aw_var.specs.Variable.{Contents}
use Rattle.aw_var.specs.inside.NumberedMap.{set_of}
use Rattle.aw_var.proofs.Unpacking.{AreNumbersOf-after, contents-after}
use Rattle.aw_var.proofs.variable.Variable.put.Goals as goal

size : (c : goal.After-put) → length c.args.at.now ≡ c.self.inside.slots
size c = c.requires.slots ∙ ap (λ (v : Contents). v.slots) (sym c.self.view_is)

put : (c : goal.After-put) → OnOk c.put.result (c.put.new.self ≡ record { kind = c.self.inside.cells.kind; cells = set_of c.self.inside.cells.cells (packed c.args.at.now) c.args.cell })
put c = subst (λ (n : ℕ). OnOk c.put.result (c.put.new.self ≡ record { kind = c.self.inside.cells.kind; cells = set_of c.self.inside.cells.cells n c.args.cell })) c.number_of.ensures.value c.put.ensures.ok

pub invariant_of-self : goal.invariant_of-self
invariant_of-self c = AreNumbersOf-after c.self.inside.slots c.args.at.now c.args.cell c.self.inside.cells c.put.new.self c.put.result c.number_of.ensures.slots (size c) c.self.invariant (put c) c.put.ensures.err

pub returns-clause-ok : goal.returns-clause-ok
returns-clause-ok c = contents-after c.self.inside.slots c.args.at.now c.args.cell c.self.inside.cells c.put.new.self c.args.self.now c.put.result c.number_of.ensures.slots (size c) c.self.invariant (put c) c.self.view_is
