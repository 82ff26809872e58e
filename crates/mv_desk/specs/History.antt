-- The desk history: the calls of all callers, in the order in which the turns were passed on.
--     call_of n e r             the call of caller n with the entry e and the reply r
--     StartsWith log seen       the history begins with what was seen
--     calls_by n log            the calls of caller n, in order
--     Grows before call after   what was seen before, then any calls, and then this one
--     Leads step s log t        each reply and state is one that the machine's step allows at that point, from the state s to the state t
--     IsLegal step s log        the history leads from s to some state
use Rattle.std.specs.Prelude.{◌≡◌, ℕ, ◌==◌, List, [], ◌∷◌, ◌++◌}
use Rattle.std.specs.List.{filter}
use Rattle.mv_desk.specs.declared.history.Call.{Call}

abbrev pub StartsWith : {A : Type 0} → List A → List A → Type 0
StartsWith {A} log seen = (rest : List A) × (log ≡ seen ++ rest)

module _ {E R : Type 0} where
  abbrev pub call_of : ℕ → E → R → Call E R
  call_of n e r = record { by = n; entry = e; reply = r }

  abbrev pub calls_by : ℕ → List (Call E R) → List (Call E R)
  calls_by n log = filter (λ (call : Call E R). n == call.by) log

  abbrev pub Grows : List (Call E R) → Call E R → List (Call E R) → Type 0
  Grows before call after = (others : List (Call E R)) × (after ≡ (before ++ others) ++ call ∷ [])

module _ {S E R : Type 0} (step : S → E → R → S → Type 0) where
  abbrev pub Leads : S → List (Call E R) → S → Type 0
  Leads s [] t = t ≡ s
  Leads s (call ∷ log) t = (m : S) × step s call.entry call.reply m × Leads m log t

  abbrev pub IsLegal : S → List (Call E R) → Type 0
  IsLegal s log = (t : S) × Leads s log t
