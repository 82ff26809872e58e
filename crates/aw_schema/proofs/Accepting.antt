-- What holds of a catalogue when one more definition is accepted.
use Rattle.std.specs.Prelude.{◌≡◌, List, [], ◌∷◌, ◌++◌, None, IsTrue}
use Rattle.std.proofs.Common.{sym, subst, append_assoc, append-nil}
use Rattle.aw_schema.specs.declared.definition.Def.{Def}
use Rattle.aw_schema.specs.Definitions.{is_spellable}
use Rattle.aw_schema.specs.Checking.{AreAcceptedAfter, refusal}

pub accepted-push : (before defs : List Def) (def : Def) → AreAcceptedAfter before defs → IsTrue (is_spellable def) → refusal (before ++ defs) def ≡ None → AreAcceptedAfter before (defs ++ def ∷ [])
accepted-push before [] def accepted spellable fits =
    (spellable, subst (λ defs. refusal defs def ≡ None) (append-nil before) fits, tt)
accepted-push before (first ∷ defs) def accepted spellable fits =
    (accepted.0, accepted.1, accepted-push (before ++ first ∷ []) defs def accepted.2 spellable (subst (λ all. refusal all def ≡ None) (sym (append_assoc before (first ∷ []) defs)) fits))
