-- Arguments that are missing.
use Rattle.std.specs.Prelude.{◌≡◌, ◌<◌, false, List, [], ◌∷◌, length}
use Rattle.std.proofs.Common.{refl, arith}
use Rattle.aw_cell.specs.declared.cell.Kind.{Kind}
use Rattle.dml_kinds.specs.declared.types.ValueType.{ValueType}
use Rattle.dml_types.specs.Statements.{arguments_fit}

pub none_left : (kinds : List Kind) (types : List ValueType) → length types < 1 → 0 < length kinds → arguments_fit kinds types ≡ false
none_left [] types few some = absurd (omega (arith, some))
none_left (k ∷ ks) [] few some = refl
none_left (k ∷ ks) (t ∷ ts) few some = absurd (omega (arith, few))
