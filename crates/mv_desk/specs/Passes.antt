-- What a desk and its passes know of the history.
--     IsPassOf desk pass            the pass is of this desk: it has the desk's identity and opening machine
--     new_passes desk               the passes of a new desk, by number from 0: none has seen or called anything
--     Fits log pass                 what the pass has seen begins the history, and its own calls are all that the history has of its caller
--     IsMissing desk passes         no pass here has the number of one of the desk's callers
--     ClosesAs step desk passes m   one legal history leads from the opening machine to m; each pass fits it, and all its calls are of the desk's callers
use Rattle.std.specs.Prelude.{◌≡◌, ◌≢◌, ℕ, ◌<◌, List, [], All, map, Some}
use Rattle.std.specs.List.{range_with_len}
use Rattle.mv_desk.specs.declared.history.Call.{Call}
use Rattle.mv_desk.specs.declared.facts.DeskFacts.{DeskFacts}
use Rattle.mv_desk.specs.declared.facts.PassFacts.{PassFacts}
use Rattle.mv_desk.specs.History.{StartsWith, calls_by, Leads}

module _ {S E R : Type 0} where
  abbrev pub IsPassOf : DeskFacts S → PassFacts S E R → Type 0
  IsPassOf desk pass = (pass.table ≡ desk.table) × (pass.opening ≡ Some desk.opening)

  abbrev pub new_pass : DeskFacts S → ℕ → PassFacts S E R
  new_pass desk n = record { opening = Some desk.opening; number = n; seen = []; mine = []; table = desk.table }

  abbrev pub new_passes : DeskFacts S → List (PassFacts S E R)
  new_passes desk = map (new_pass desk) (range_with_len 0 desk.callers)

  abbrev pub Fits : List (Call E R) → PassFacts S E R → Type 0
  Fits log pass = StartsWith log pass.seen × (pass.mine ≡ calls_by pass.number log)

  abbrev pub IsMissing : DeskFacts S → List (PassFacts S E R) → Type 0
  IsMissing desk passes = (n : ℕ) × (n < desk.callers) × All (λ (pass : PassFacts S E R). pass.number ≢ n) passes

  abbrev pub ClosesAs : (S → E → R → S → Type 0) → DeskFacts S → List (PassFacts S E R) → S → Type 0
  ClosesAs step desk passes m = (log : List (Call E R)) × Leads step desk.opening log m × All (Fits log) passes × All (λ (call : Call E R). call.by < desk.callers) log
