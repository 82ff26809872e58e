use Rattle.std.proofs.Common.{◌+◌, List, sym, subst}
use Rattle.aw_cell.specs.declared.cell.Kind.{Kind}
use Rattle.dml_exec.specs.declared.flow.Way.{Way}
use Rattle.dml_exec.specs.inside.Arrivals.{Arrives, Spreads}
use Rattle.dml_exec.proofs.survey.Survey.spread.Goals as goal

pub returns-in_ok-at_na-in-Fork : goal.returns-in_ok-at_na-in-Fork
returns-in_ok-at_na-in-Fork c =
    let old = c.args.self.now in
    let one = c.arrive-in-Fork.new.self in
    let two = c.arrive-in-Fork-2.new.self in
    let new = c.arrive-in-Fork-3.new.self in
    let first : Arrives old one c.in-Fork.no c.args.stack = subst (λ (s : List Kind). Arrives old one c.in-Fork.no s) c.in_ok-at_no-in-Fork.ensures c.arrive-in-Fork.ensures in
    let second : Arrives one two c.in-Fork.na c.args.stack = subst (λ (s : List Kind). Arrives one two c.in-Fork.na s) c.in_ok-at_na-in-Fork.ensures c.arrive-in-Fork-2.ensures in
    let third : Arrives two new (c.args.at + 1) c.args.stack = c.arrive-in-Fork-3.ensures in
    subst (λ (w : Way). Spreads old new c.args.at w c.args.stack) (sym c.in-Fork.is) (one, two, first, second, third)
