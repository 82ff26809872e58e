use Rattle.std.proofs.Common.{◌∙◌, length, subst}
use Rattle.std.specs.Prelude.{IfErr}
use Rattle.dml_exec.specs.CodeRuns.{FaultsAt}
use Rattle.dml_exec.specs.Verified.{rules_of}
use Rattle.dml_compile.specs.FormulasView.{kinds_with}
use Rattle.dml_compile.proofs.AcceptedCode.{made_ops, made_fixes, never_bad}
use Rattle.dml_compile.proofs.compiling.tried.Goals as goal

pub returns-clause-bad : goal.returns-clause-bad
returns-clause-bad c =
    never_bad c.args.library.now.objects c.args.library.now.trees c.args.typed.now c.from_vec-ops.result c.from_vec-fixes.result c.accepted.result
    (c.from_vec-ops.ensures
    ∙ made_ops c.args.library.now.trees c.args.typed.now c.emit.new.draft.ops.items c.no_ops-draft.result.ops.items c.no_ops-draft.result.fixes.items c.wanted_for.result
    c.in_ok-emit.ensures.ops c.no_ops-draft.ensures.ops c.no_ops-draft.ensures.fixes c.wanted_for.ensures)
    (c.from_vec-fixes.ensures
    ∙ made_fixes c.args.library.now.trees c.args.typed.now c.emit.new.draft.fixes.items c.no_ops-draft.result.fixes.items c.in_ok-emit.ensures.fixes
    c.no_ops-draft.ensures.fixes)
    (subst
    (λ locals. IfErr c.accepted.result (FaultsAt (rules_of (kinds_with c.args.library.now.objects locals) (length c.from_vec-fixes.result) c.from_vec-ops.result)))
    c.as_slice.ensures c.accepted.ensures.bad)
