use Rattle.std.proofs.Common.{◌∙◌, sym}
use Rattle.std.proofs.lemmas.Bool.{false≢true}
use Rattle.script_play.proofs.Drafting.{formula_bad, formula_fine}
use Rattle.script_play.proofs.draft.unbuilt_formula.Goals as goal

pub returns-in-Ok : goal.returns-in-Ok
returns-in-Ok c = λ from to. c.no_form.ensures ∙ formula_fine c.args.drafted.now c.args.name.now c.args.expr.now from to c.in-Ok.field-0 (sym c.name_refusal.ensures ∙ c.in_default.is) c.new.result c.new.ensures c.in-Ok.ensures.answer

pub returns-in-Ok-formula_refusal : goal.returns-in-Ok-formula_refusal
returns-in-Ok-formula_refusal c =
    λ from to. c.in-Ok-formula_refusal.ensures.value
    ∙ formula_bad c.args.drafted.now c.args.name.now c.args.expr.now from to c.in-Err.fault (λ full. false≢true (c.in-Ok-formula_refusal.ensures.memory full)) (sym c.name_refusal.ensures ∙ c.in_default.is) c.new.result c.new.ensures c.in-Err.ensures.answer
