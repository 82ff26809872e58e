use Rattle.dml_compile.specs.inside.Emitted.{formula_code}
use Rattle.dml_compile.proofs.Patches.{tree_ops_made, tree_fixes_made}
use Rattle.dml_compile.proofs.emitting.+emit.Goals as goal

pub returns-in_ok-end_choice-in-If-clause-ops : goal.returns-in_ok-end_choice-in-If-clause-ops
returns-in_ok-end_choice-in-If-clause-ops t c =
    tree_ops_made (formula_code c.args.library.now.trees) c.args.tree.now c.in-If.met
    c.get-in-If.result.now c.get-in-If-2.result.now c.get-in-If-3.result.now
    c.in-If.condition c.in-If.first c.in-If.second
    c.args.wanted c.wanted_in-kind-in-If.result
    c.args.draft.now.ops.items c.emit-in-If.new.draft.ops.items c.gap.new.draft.ops.items c.emit-in-If-2.new.draft.ops.items
    c.gap-in-If.new.draft.ops.items c.emit-in-If-3.new.draft.ops.items c.end_choice.new.draft.ops.items
    c.args.draft.now.fixes.items c.emit-in-If.new.draft.fixes.items c.gap.new.draft.fixes.items c.emit-in-If-2.new.draft.fixes.items
    c.gap-in-If.new.draft.fixes.items
    c.in_ok-branch-in-If.branch c.in_ok-jump-in-If.jump
    c.in-If.is c.get-in-If.ensures c.get-in-If-2.ensures c.get-in-If-3.ensures c.wanted_in-kind-in-If.ensures
    c.in_ok-emit-in-If.ensures.ops c.in_ok-emit-in-If.ensures.fixes
    c.in_ok-branch-in-If.ensures.place c.in_ok-branch-in-If.ensures.ops c.in_ok-branch-in-If.ensures.fixes
    c.in_ok-emit-in-If-2.ensures.ops c.in_ok-emit-in-If-2.ensures.fixes
    c.in_ok-jump-in-If.ensures.place c.in_ok-jump-in-If.ensures.ops c.in_ok-jump-in-If.ensures.fixes
    c.in_ok-emit-in-If-3.ensures.ops
    c.in_ok-end_choice-in-If.ensures.ops

pub returns-in_ok-end_choice-in-If-clause-fixes : goal.returns-in_ok-end_choice-in-If-clause-fixes
returns-in_ok-end_choice-in-If-clause-fixes t c =
    tree_fixes_made (formula_code c.args.library.now.trees) c.args.tree.now c.in-If.met
    c.get-in-If.result.now c.get-in-If-2.result.now c.get-in-If-3.result.now
    c.in-If.condition c.in-If.first c.in-If.second
    c.args.draft.now.fixes.items c.emit-in-If.new.draft.fixes.items c.gap.new.draft.fixes.items c.emit-in-If-2.new.draft.fixes.items
    c.gap-in-If.new.draft.fixes.items c.emit-in-If-3.new.draft.fixes.items c.end_choice.new.draft.fixes.items
    c.in-If.is c.get-in-If.ensures c.get-in-If-2.ensures c.get-in-If-3.ensures
    c.in_ok-emit-in-If.ensures.fixes c.in_ok-branch-in-If.ensures.fixes
    c.in_ok-emit-in-If-2.ensures.fixes c.in_ok-jump-in-If.ensures.fixes
    c.in_ok-emit-in-If-3.ensures.fixes c.in_ok-end_choice-in-If.ensures.fixes
