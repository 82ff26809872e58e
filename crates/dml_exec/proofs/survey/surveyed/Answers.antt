use Rattle.std.proofs.Common.{◌≡◌, ℕ, List, length, true, refl, sym, subst, arith, add-one}
use Rattle.aw_cell.specs.declared.cell.Kind.{Kind}
use Rattle.dml_exec.specs.declared.survey.Survey.{Survey}
use Rattle.dml_exec.specs.Verified.{Rules, rules_of}
use Rattle.dml_exec.specs.inside.Arrivals.{Arrives, Surveys, Visited}
use Rattle.dml_exec.proofs.ReachedPlaces.{surveys-first, found-fault, found-sound}
use Rattle.dml_exec.proofs.survey.surveyed.Goals as goal

pub loop-at-init : goal.loop-at-init
loop-at-init c =
    let r : Rules = rules_of c.args.kinds.now c.args.fixes c.args.ops.now in
    let old : Survey = record { arrivals = c.in_ok-unreached.field-0; ended = true; deepest = 0 } in
    surveys-first r old c.arrive.new.self c.in_ok-unreached.ensures refl (subst (λ (s : List Kind). Arrives old c.arrive.new.self 0 s) c.new.ensures c.arrive.ensures)

pub loop-at-preserved : goal.loop-at-preserved
loop-at-preserved c =
    let r : Rules = rules_of c.args.kinds.now c.args.fixes c.args.ops.now in
    subst (λ (n : ℕ). Surveys r n c.visit.new.self) (sym (add-one c.loop-at.at)) (subst (Visited r c.loop-at.at c.visit.new.self) c.if-not-branch.false c.in_ok-visit.ensures)

pub returns-then-not-survey : goal.returns-then-not-survey
returns-then-not-survey c =
    let r : Rules = rules_of c.args.kinds.now c.args.fixes c.args.ops.now in
    let end : c.loop-at.at ≡ length c.args.ops.now = omega arith in
    found-fault r c.loop-at.survey (subst (λ (n : ℕ). Surveys r n c.loop-at.survey) end c.loop-at.invariant) c.if-not-survey.true

pub returns : goal.returns
returns c =
    let r : Rules = rules_of c.args.kinds.now c.args.fixes c.args.ops.now in
    let end : c.loop-at.at ≡ length c.args.ops.now = omega arith in
    found-sound r c.loop-at.survey (subst (λ (n : ℕ). Surveys r n c.loop-at.survey) end c.loop-at.invariant) c.if-not-survey.false
