use Rattle.std.proofs.Common.{◌≡◌, ◌∙◌, length, Option, Some, None, refl, sym, ap}
use Rattle.std.specs.List.{slice_get}
use Rattle.std.proofs.lemmas.Option.{slice_get_read}
use Rattle.dml_exec.specs.declared.flow.Way.{Way}
use Rattle.dml_exec.specs.Verified.{rules_of, onward}
use Rattle.dml_exec.specs.inside.Arrivals.{flowed}
use Rattle.dml_exec.proofs.ReachedPlaces.{never-visited, torn-bad, stuck-bad, spread-visited}
use Rattle.dml_exec.proofs.survey.Survey.visit.Goals as goal

pub returns-in-Never : goal.returns-in-Never
returns-in-Never c = never-visited (rules_of c.args.kinds.now c.args.fixes c.args.ops.now) c.args.at c.args.self.now c.take.new.self c.requires.surveys c.take.ensures.taken c.in-Never.ensures.was

pub returns-in-Torn : goal.returns-in-Torn
returns-in-Torn c = torn-bad (rules_of c.args.kinds.now c.args.fixes c.args.ops.now) c.args.at c.args.self.now c.take.new.self c.requires.surveys c.take.ensures.taken c.requires.within c.in-Torn.ensures.was

pub returns-in_ok-spread-in-Some : goal.returns-in_ok-spread-in-Some
returns-in_ok-spread-in-Some c =
    let op = c.index-ops-at.result in
    let ops = c.args.ops.now in
    let after = c.flow.new.stack in
    let is : slice_get ops c.args.at ≡ Some op = slice_get_read ops (length ops) c.args.at op refl c.requires.within c.index-ops-at.is in
    let goes : onward (rules_of c.args.kinds.now c.args.fixes ops) c.args.at op c.in-With.stack ≡ Some (c.in-Some.way, after) = sym c.in_ok-way-in-With.ensures ∙ ap (λ (way : Option Way). flowed way after) c.in-Some.is in
    spread-visited (rules_of c.args.kinds.now c.args.fixes ops) c.args.at c.args.self.now c.take.new.self c.requires.surveys c.take.ensures.taken
    op c.in-With.stack after c.in-Some.way c.spread.new.self is c.in-With.ensures.was goes c.in_ok-spread-in-Some.ensures

pub returns-in-None : goal.returns-in-None
returns-in-None c =
    let op = c.index-ops-at.result in
    let ops = c.args.ops.now in
    let after = c.flow.new.stack in
    let is : slice_get ops c.args.at ≡ Some op = slice_get_read ops (length ops) c.args.at op refl c.requires.within c.index-ops-at.is in
    let stuck : onward (rules_of c.args.kinds.now c.args.fixes ops) c.args.at op c.in-With.stack ≡ None = sym c.in_ok-way-in-With.ensures ∙ ap (λ (way : Option Way). flowed way after) c.in-None.is in
    stuck-bad (rules_of c.args.kinds.now c.args.fixes ops) c.args.at c.args.self.now c.take.new.self c.requires.surveys c.take.ensures.taken
    op c.in-With.stack is c.in-With.ensures.was stuck
