-- How many definitions a catalogue has.
use Rattle.std.proofs.Common.{refl, arith}
use Rattle.std.proofs.lemmas.Bool.{leb-false}
use Rattle.std.proofs.lemmas.List.{length-append}
use Rattle.std.specs.Prelude.{◌≡◌, ◌+◌, ◌<◌, ◌≤◌, ◌∷◌, ◌++◌, Bool, true, false, List, [], length, Option, Some, None, nat_le, if◌then◌else◌}
use Rattle.std.specs.Option.{option_or}
use Rattle.aw_schema.specs.declared.definition.Def.{Def}
use Rattle.aw_schema.specs.declared.fault.SchemaFault.TheVariants.{TooMany}
use Rattle.aw_schema.specs.Checking.{AreAccepted, AreAcceptedAfter, refusal, repeated_name, too_many, wrong_objects}

pub or_parts : {A : Type 0} (one other : Option A) → option_or one other ≡ None → (one ≡ None) × (other ≡ None)
or_parts None other none = (refl, none)
or_parts (Some x) other none = absurd cc

room_if : (full : Bool) → (if full then Some TooMany else None) ≡ None → full ≡ false
room_if true none = absurd cc
room_if false none = refl

room : (before : List Def) (def : Def) → refusal before def ≡ None → length before < 4096
room before def free =
    let rest = (or_parts (repeated_name before def.name) (option_or (too_many before) (wrong_objects before def.kind)) free).1 in
    let few = (or_parts (too_many before) (wrong_objects before def.kind) rest).0 in
    omega (arith, leb-false 4096 (length before) (room_if (nat_le 4096 (length before)) few))

few_after : (before defs : List Def) → length before ≤ 4096 → AreAcceptedAfter before defs → length before + length defs ≤ 4096
few_after before [] most accepted = omega (arith, most)
few_after before (def ∷ defs) most accepted =
    let longer = length-append before (def ∷ []) in
    let below = room before def accepted.1 in
    omega (arith, longer, few_after (before ++ def ∷ []) defs (omega (arith, below, longer)) accepted.2)

pub accepted_few : (defs : List Def) → AreAccepted defs → length defs ≤ 4096
accepted_few defs accepted = omega (arith, few_after [] defs (omega arith) accepted)
