use Rattle.std.proofs.Common.{◌≡◌, ◌∙◌, ◌+◌, ◌==◌, ℕ, drop, List, [], ◌∷◌, length, ap, sym, subst}
use Rattle.std.proofs.lemmas.List.{length-append}
use Rattle.dml_tree.specs.declared.token.Token.{Token}
use Rattle.dml_lines.specs.Lines.{front_of as spec_front}
use Rattle.dml_lines.specs.inside.Telling.{behind}
use Rattle.dml_lines.proofs.LinesRead.{front_next, front_ends}
use Rattle.dml_lines.proofs.reading.front_of.Goals as goal

pub returns-in-Err-Lexical : goal.returns-in-Err-Lexical
returns-in-Err-Lexical c =
    let found = c.in-Err-Lexical.is in
    let fault = c.in-Err-Lexical.field-0-is in
    let column = c.in-Err-Lexical.column-is in
    let lines = c.args.lines.now in
    front_ends lines c.loop-line.line-index c.loop-line.front c.line-item.result c.loop-line-test.true c.line-item.is c.loop-line.invariant.0
    (c.len.result + 1 == length lines) (ap (λ (n : ℕ). n + 1 == length lines) c.len.ensures) c.loop-line.invariant.1
    c.as_slice.result.now c.as_slice.ensures _ (c.read_line.ensures.fault _ cc)

pub loop-line-preserved : goal.loop-line-preserved
loop-line-preserved c =
    let lines = c.args.lines.now in
    let at = c.loop-line.line-index in (
      subst (λ (front : List (List Token)). behind front (spec_front (drop (at + 1) lines)) ≡ spec_front lines) (sym c.in_ok-push-in-Ok.ensures.ok)
          (front_next lines at c.loop-line.front c.line-item.result c.loop-line-test.true c.line-item.is c.loop-line.invariant.0
          (c.len.result + 1 == length lines) (ap (λ (n : ℕ). n + 1 == length lines) c.len.ensures) c.loop-line.invariant.1
          c.as_slice.result.now c.as_slice.ensures c.in-Ok.tokens c.in-Ok.ensures.tokens),
      ap (λ (front : List (List Token)). length front) c.in_ok-push-in-Ok.ensures.ok ∙ length-append c.loop-line.front (c.in-Ok.tokens ∷ []) ∙ ap (λ (n : ℕ). n + 1) c.loop-line.invariant.1,
    )
