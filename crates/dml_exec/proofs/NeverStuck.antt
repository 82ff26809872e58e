-- Accepted code runs to its end, or to a refusal.
use Rattle.std.proofs.Common.{◌≡◌, ◌∙◌, ℕ, zero, suc, ◌+◌, ◌-◌, ◌<◌, ◌≤◌, List, [], length, drop, Some, None, Ok, Err, refl, ap, subst, ⊎_elim, arith, add-one}
use Rattle.std.specs.List.{slice_get}
use Rattle.std.proofs.lemmas.Bool.{cases_lt}
use Rattle.aw_cell.specs.declared.cell.Cell.{Cell}
use Rattle.aw_cell.specs.declared.cell.Kind.{Kind}
use Rattle.dml_exec.specs.declared.code.Code.{Code}
use Rattle.dml_exec.specs.declared.kinds.Kinds.{Kinds}
use Rattle.dml_exec.specs.declared.op.Op.{Op}
use Rattle.dml_exec.specs.Meaning.{CodeInputs, Outcome, turn, going, then_on, ended}
use Rattle.dml_exec.specs.CodeRuns.{Accepts, Fits, rules_for, IsAnswered, AcceptedCodeIsNeverStuck}
use Rattle.dml_exec.specs.Verified.{Reaches}
use Rattle.dml_exec.specs.inside.MachineSteps.{AreOf, Stands}
use Rattle.dml_exec.proofs.CodeSteps.{Steps, steps, there, taken, passed, ahead, stands-ended}
use Rattle.dml_exec.proofs.MachineSteps.{Turned}

module _ (kinds : Kinds) (code : Code) (r : CodeInputs) (accepted : Accepts kinds code) (fits : Fits kinds code r) where
  abbrev Anyway : ℕ → List ℕ → Type 0
  Anyway object slots = Unit {0}

  abbrev Always : ℕ → ℕ → Type 0
  Always dimension slot = Unit {0}

  finish : (next : ℕ) (stack : List Kind) (cells : List Cell) → Reaches (rules_for kinds code) next stack → AreOf stack cells → next ≤ length code.ops → length code.ops ≤ next → going r 0 code.ops (0, []) ≡ going r next (drop next code.ops) (next, cells) → IsAnswered kinds code r
  finish next stack cells reached are within past same =
      let s : Stands code r Anyway Always next cells = record {
        can = record { kinds = kinds; accepted = accepted; fits = fits; may_ask = record { cells = λ object kind dimensions slots is len. tt; names = λ dimension slot is. tt } };
        within = within;
        stack = stack;
        reached = reached;
        cells_are = are;
        same = same;
      } in
      let end = stands-ended code r Anyway Always next cells s past in
      record { answer = Ok end.0; means = end.2; ends = end.3 }

  -- what is answered further on
  abbrev Further : ℕ → Type 0
  Further next = (place : ℕ) (stack : List Kind) (cells : List Cell) → next < place → Reaches (rules_for kinds code) place stack → AreOf stack cells → place ≤ length code.ops → going r 0 code.ops (0, []) ≡ going r place (drop place code.ops) (place, cells) → IsAnswered kinds code r

  turns : (next : ℕ) (cells : List Cell) (op : Op) → Further next → going r 0 code.ops (0, []) ≡ going r next (drop next code.ops) (next, cells) → next < length code.ops → slice_get code.ops next ≡ Some op → (step : Steps kinds code r next op cells) (outcome : Outcome) → turn r next op cells ≡ outcome → IsAnswered kinds code r
  turns next cells op again same less is step None e = absurd (subst (Turned next step.way step.after) e step.turns)
  turns next cells op again same less is step (Some (Err why)) e =
      record { answer = Err why; means = ap (ended (length code.ops)) (same ∙ taken r code.ops next op cells is ∙ ap (then_on (going r (next + 1) (drop (suc next) code.ops))) e); ends = tt }
  turns next cells op again same less is step (Some (Ok standing)) e =
      let t : Turned next step.way step.after (Some (Ok standing)) = subst (Turned next step.way step.after) e step.turns in
      let far = ahead (length code.ops) next standing.0 step.way less step.goes_ahead t.0 in
      again standing.0 step.after standing.1 far.0 (step.leads standing.0 t.0) t.1 far.1
      (same ∙ taken r code.ops next op cells is ∙ ap (then_on (going r (next + 1) (drop (suc next) code.ops))) e
      ∙ ap (λ (n : ℕ). going r n (drop (suc next) code.ops) standing) (add-one next)
      ∙ passed r code.ops standing.1 standing.0 (standing.0 - suc next) (suc next) (omega (arith, far.0)))

  -- so many ops are still to come at most
  walk : (left next : ℕ) (stack : List Kind) (cells : List Cell) → Reaches (rules_for kinds code) next stack → AreOf stack cells → next ≤ length code.ops → length code.ops ≤ next + left → going r 0 code.ops (0, []) ≡ going r next (drop next code.ops) (next, cells) → IsAnswered kinds code r
  walk zero next stack cells reached are within more same = finish next stack cells reached are within (omega arith) same
  walk (suc left) next stack cells reached are within more same =
      ⊎_elim
      (λ less.
      let op = there code.ops next less in
      turns next cells op.0 (λ place kinds_then cells_then far reached_then are_then within_then same_then. walk left place kinds_then cells_then reached_then are_then within_then (omega arith) same_then) same less op.1
      (steps kinds code r accepted fits next op.0 stack cells op.1 reached are) (turn r next op.0 cells) refl)
      (λ past. finish next stack cells reached are within past same)
      (cases_lt next (length code.ops))

pub never-stuck : AcceptedCodeIsNeverStuck
never-stuck kinds code r accepted fits = walk kinds code r accepted fits (length code.ops) 0 [] [] (refl, refl) tt (omega arith) (omega arith) refl
