-- What holds of the definitions of a catalogue.
use Rattle.std.specs.Prelude.{ℕ, zero, suc, ◌≡◌, ◌+◌, ◌<◌, ◌∷◌, ◌++◌, List, [], length, Some, None, slice_get, IsTrue}
use Rattle.std.specs.List.{All}
use Rattle.std.proofs.Common.{sym, subst, ◌∙◌, arith, get_or}
use Rattle.std.proofs.lemmas.Bool.{and_parts}
use Rattle.std.proofs.lemmas.Option.{slice_get-get_or}
use Rattle.aw_cell.specs.Names.{is_name}
use Rattle.aw_schema.specs.declared.definition.Def.{Def}
use Rattle.aw_schema.specs.Checking.{AreAccepted, AreAcceptedAfter}
use Rattle.aw_schema.specs.Definitions.{is_spellable, has_form}

-- ---- they are 4,096 at most

-- ---- each can be spelled

spellable_after : (before defs : List Def) → AreAcceptedAfter before defs → All (λ def. IsTrue (is_spellable def)) defs
spellable_after before [] accepted k d within = absurd (omega (arith, within))
spellable_after before (def ∷ defs) accepted zero d within = accepted.0
spellable_after before (def ∷ defs) accepted (suc k) d within = spellable_after (before ++ def ∷ []) defs accepted.2 k d (omega (arith, within))

pub def_at : (defs : List Def) (object : ℕ) (def : Def) → object < length defs → slice_get defs object ≡ Some def → def ≡ get_or defs object def
def_at defs object def within found = some_same def (get_or defs object def) (sym found ∙ slice_get-get_or defs object def within)
  where
    some_same : (one other : Def) → Some one ≡ Some other → one ≡ other
    some_same one other same = cc

pub accepted_spellable : (defs : List Def) → AreAccepted defs → All (λ def. IsTrue (is_spellable def)) defs
accepted_spellable defs accepted = spellable_after [] defs accepted

pub spellable_at : (defs : List Def) (object : ℕ) (def : Def) → AreAccepted defs → object < length defs → slice_get defs object ≡ Some def → IsTrue (is_spellable def)
spellable_at defs object def accepted within found =
    subst (λ (one : Def). IsTrue (is_spellable one)) (sym (def_at defs object def within found)) (accepted_spellable defs accepted object def within)

pub spellable_form : (def : Def) → IsTrue (is_spellable def) → IsTrue (has_form def.kind)
spellable_form def spellable = (and_parts (is_name def.name) (has_form def.kind) spellable).1

-- ---- each number below theirs has one

pub none_missing : (defs : List Def) (object : ℕ) → object < length defs → slice_get defs object ≡ None → ⊥
none_missing [] object within none = omega (arith, within)
none_missing (def ∷ defs) zero within none = cc
none_missing (def ∷ defs) (suc object) within none = none_missing defs object (omega (arith, within)) none
