use Rattle.std.proofs.Common.{◌∙◌, ap, sym, refl}
use Rattle.std.proofs.lemmas.Bool.{false≢true}
use Rattle.script_meaning.specs.DefinitionLines.{form_refusal, fault_refusal, is_block}
use Rattle.script_play.proofs.Drafting.{can_be_drafted, form_so, read_so, fault_so}
use Rattle.script_play.proofs.LineForms.{lines_short}
use Rattle.script_play.proofs.draft.draft_lines.Goals as goal

pub definition_in-requires : goal.definition_in-requires
definition_in-requires c = record { short = lines_short c.args.lines.now (ap form_refusal (sym c.as_slice.ensures) ∙ sym c.form_refusal.ensures ∙ c.in_default.is) }

pub returns-in-Some-clause-ok : goal.returns-in-Some-clause-ok
returns-in-Some-clause-ok c = form_so c.args.lines.now c.in-Some.refusal c.args.drafted.now (ap form_refusal (sym c.as_slice.ensures) ∙ sym c.form_refusal.ensures ∙ c.in-Some.is)

pub draft_tree-requires : goal.draft_tree-requires
draft_tree-requires c = can_be_drafted c.args.lines.now c.in-Ok.tree c.in-Ok.ensures.value

pub returns-in-Ok-draft_tree-clause-ok : goal.returns-in-Ok-draft_tree-clause-ok
returns-in-Ok-draft_tree-clause-ok c =
    read_so c.args.lines.now c.in-Ok.tree c.in-Ok-draft_tree.refusal c.args.drafted.now c.draft_tree.new.drafted (ap form_refusal (sym c.as_slice.ensures) ∙ sym c.form_refusal.ensures ∙ c.in_default.is) c.in-Ok.ensures.value c.in-Ok-draft_tree.ensures.ok

pub returns-in-Ok-syntax_refusal-clause-ok : goal.returns-in-Ok-syntax_refusal-clause-ok
returns-in-Ok-syntax_refusal-clause-ok c =
    fault_so c.args.lines.now c.in-Err.fault c.in-Ok-syntax_refusal.refusal c.args.drafted.now (ap form_refusal (sym c.as_slice.ensures) ∙ sym c.form_refusal.ensures ∙ c.in_default.is) (λ full. false≢true (c.in-Ok-syntax_refusal.ensures.memory full)) (c.in-Err.ensures.fault c.in-Err.fault refl)
    (c.in-Ok-syntax_refusal.ensures.value ∙ ap (λ block. fault_refusal block c.in-Err.fault) (c.is_block.ensures ∙ ap is_block c.as_slice-in-Err.ensures))
