-- The signatures of formulas, programs and aggmaps, by their numbers.
use Rattle.std.specs.Prelude.{ℕ, List, Option}
use Rattle.std.specs.Map.{lookup}
use Rattle.std.specs.BTreeMap.{is_at}
use Rattle.std.specs.Ordering.{nat_cmp}
use Rattle.dml_kinds.specs.declared.signature.Signature.{Signature}

-- by rising number
abbrev pub Told : Type 0
Told = List (ℕ × Signature)

-- the one that was noted under a number
abbrev pub signature_of : Told → ℕ → Option Signature
signature_of known object = lookup (is_at (nat_cmp object)) known
