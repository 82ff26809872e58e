use Rattle.dml_compile.specs.FormulasView.{formula_tree, kinds_with}
use Rattle.dml_compile.proofs.CompiledCode.{compiles_if}
use Rattle.dml_compile.proofs.compiling.compile.Goals as goal

pub returns : goal.returns
returns c =
    compiles_if c.accepted_code_is_never_stuck.ensures c.args.library.now.trees
    (kinds_with c.args.library.now.objects c.args.typed.now.locals) c.args.typed.now.tree
    (formula_tree 0 c.args.typed.now).kind c.compiled.result c.compiled.ensures.code c.compiled.ensures.accepted
