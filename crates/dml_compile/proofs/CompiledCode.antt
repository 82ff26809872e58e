-- What was accepted with the ops of a tree is code of the tree.
use Rattle.std.specs.Prelude.{List, Result, Ok, Err, IfOk}
use Rattle.aw_cell.specs.declared.cell.Kind.{Kind}
use Rattle.dml_kinds.specs.declared.tree.Tree.{Tree}
use Rattle.dml_exec.specs.declared.code.Code.{Code}
use Rattle.dml_exec.specs.declared.kinds.Kinds.{Kinds}
use Rattle.dml_exec.specs.CodeRuns.{Accepts, AcceptedCodeIsNeverStuck}
use Rattle.dml_compile.specs.Values.{FormulaTree}
use Rattle.dml_compile.specs.Compiled.{Compiles}
use Rattle.dml_compile.specs.inside.Emitted.{tree_code}
use Rattle.dml_compile.specs.inside.Library.{HasCode}
use Rattle.dml_compile.proofs.TreeCode.{compiles}

pub compiles_if : {E : Type 0} → AcceptedCodeIsNeverStuck → (formulas : List FormulaTree) (kinds : Kinds) (tree : Tree) (kind : Kind) (result : Result Code E) → IfOk result (λ code. HasCode code (tree_code formulas (record { object = 0; kind = kind; tree = tree }))) → IfOk result (λ code. Accepts kinds code) → IfOk result (λ code. Compiles formulas kinds tree code)
compiles_if never formulas kinds tree kind (Ok code) has accepted =
    compiles never formulas kinds tree kind code accepted has.ops has.fixes
compiles_if never formulas kinds tree kind (Err why) has accepted = tt
