use Rattle.std.proofs.Common.{◌≡◌, drop, length}
use Rattle.dml_lines.specs.Lines as spec
use Rattle.dml_lines.specs.inside.Telling.{behind}
use Rattle.dml_lines.proofs.reading.front_of.Given as goal

abbrev pub invariant-loop-line : goal.invariant-loop-line
invariant-loop-line l = (behind l.front (spec.front_of (drop l.line-index l.lines)) ≡ spec.front_of l.lines) × (length l.front ≡ l.line-index)
