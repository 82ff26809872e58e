use Rattle.std.proofs.Common.{◌≡◌, ◌+◌, ℕ, ◌∙◌, refl, sym, subst, arith, take, List, length-set, true, false, ne_eqb}
use Rattle.std.specs.Prelude.{MatchOption, Option}
use Rattle.dml_tree.specs.declared.next.Found.{Found}
use Rattle.dml_tree.specs.declared.token.Lexeme.TheVariants as lexeme
use Rattle.dml_tree.specs.LineTokens.{IsNext}
use Rattle.dml_tree.specs.inside.Scanning.{NoneIsNext}
use Rattle.dml_tree.proofs.Quotes.{first_read, more_read, unclosed, overlong, no_text, quoted_is_next, quote_at, no_quote_at, no_quote_behind, one_more_letter, rest_letter, rest_no_letter, full_room}
use Rattle.dml_tree.proofs.quoted.quoted.Goals as goal
use Rattle.dml_tree.proofs.quoted.quoted.Goals.{then-at-bytes-via-then-at-bytes, then-at-bytes-via-else-at-bytes+then-bytes-at-ne39}

pub loop-letter-init : goal.loop-letter-init
loop-letter-init c = record { read = first_read c.args.bytes.now _ c.requires refl; few = omega arith; size = refl }

pub loop-letter-preserved : goal.loop-letter-preserved
loop-letter-preserved c =
    let before = c.loop-letter.invariant in
    record {
      read = more_read c.args.bytes.now (take c.loop-letter.len c.loop-letter.text) _ c.loop-letter.at c.in-Some.letter.byte c.in-Some.letter.len before.read
          (rest_letter c.args.bytes.now c.loop-letter.at c.in-Some.letter.byte c.in-Some.letter.len c.in-Some.ensures)
          (one_more_letter c.loop-letter.text c.loop-letter.len c.in-Some.letter.byte before.size (omega arith));
      few = omega arith;
      size = length-set _ _ _ ∙ before.size;
    }

pub returns-then-len-eq64 : goal.returns-then-len-eq64
returns-then-len-eq64 c =
    let before = c.loop-letter.invariant in
    overlong c.args.bytes.now (take c.loop-letter.len c.loop-letter.text) c.loop-letter.at c.in-Some.letter.byte c.in-Some.letter.len c.requires before.read
    (full_room c.loop-letter.text c.loop-letter.len before.size c.if-len-eq64.true)
    (rest_letter c.args.bytes.now c.loop-letter.at c.in-Some.letter.byte c.in-Some.letter.len c.in-Some.ensures)

pub returns-then-at-bytes : goal.returns-then-at-bytes
returns-then-at-bytes c =
    let before = c.loop-letter.invariant in
    let no_letter = rest_no_letter c.args.bytes.now c.loop-letter.at c.in_default.ensures in
    let unclosed_here = unclosed c.args.bytes.now (take c.loop-letter.len c.loop-letter.text) c.loop-letter.at c.requires before.read no_letter in
    elim c.then-at-bytes.branch [
      | then-at-bytes-via-then-at-bytes w ↦ unclosed_here (no_quote_behind c.args.bytes.now c.loop-letter.at (omega arith))
      | then-at-bytes-via-else-at-bytes+then-bytes-at-ne39 w ↦
          let within = before.read.within in
          unclosed_here (no_quote_at c.args.bytes.now c.loop-letter.at (omega arith) (ne_eqb _ _ (omega arith)))
    ]

pub returns-in_err-text : goal.returns-in_err-text
returns-in_err-text c =
    let before = c.loop-letter.invariant in
    let within = before.read.within in
    let P : Option Found → Type 0 = λ r. MatchOption r (NoneIsNext c.args.bytes.now) (λ found. IsNext c.args.bytes.now found.what found.len) in
    subst P (sym c.from_residual.ensures)
    (no_text c.args.bytes.now (take c.loop-letter.len c.loop-letter.text) c.loop-letter.at c.requires before.read
    (quote_at c.args.bytes.now c.loop-letter.at (omega arith) (omega arith))
    (λ fits. let both : false ≡ true = c.in_err-text.ensures.some.1 fits in cc))

pub returns : goal.returns
returns c =
    let before = c.loop-letter.invariant in
    let within = before.read.within in
    let P : List ℕ → Type 0 = λ t. IsNext c.args.bytes.now (lexeme.Text t) (c.loop-letter.at + 1) in
    subst P (sym c.in_ok-text.ensures.value)
    (quoted_is_next c.args.bytes.now (take c.loop-letter.len c.loop-letter.text) c.loop-letter.at c.requires before.read
    (quote_at c.args.bytes.now c.loop-letter.at (omega arith) (omega arith))
    (c.in_ok-text.ensures.some.0 refl))
