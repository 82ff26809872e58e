use Rattle.std.proofs.Common.{◌≡◌, ◌∙◌, sym, arith, below_more, get_or}
use Rattle.std.proofs.lemmas.Option.{get_or_from_slice_get}
use Rattle.aw_cell.specs.declared.cell.Cell.TheVariants.{Na}
use Rattle.aw_var.proofs.Blank.{blank_from, used_from, some_of, na_from}
use Rattle.aw_var.proofs.sheet.Sheet.is_blank_without.Goals as goal
use Rattle.aw_var.proofs.sheet.Sheet.is_blank_without.Goals.{else-place-at-via-then-place-at+else-ne, else-place-at-via-else-place-at}

pub returns-then-ne : goal.returns-then-ne
returns-then-ne c = sym (used_from c.args.self.now.1 c.args.at c.loop-place.place c.get.result c.if-place-at.true c.get.ensures.cell (some_of c.get.result c.if-ne.ensures))

pub loop-place-preserved : goal.loop-place-preserved
loop-place-preserved c = below_more (λ k. (k ≡ c.args.at → ⊥) → get_or c.args.self.now.1 k Na ≡ Na) c.loop-place.place c.loop-place.invariant
    (elim c.else-place-at.branch [
      | else-place-at-via-then-place-at+else-ne w ↦ λ apart. get_or_from_slice_get c.args.self.now.1 c.loop-place.place w.get.result Na w.get.ensures.cell ∙ na_from w.get.result w.if-ne.ensures
      | else-place-at-via-else-place-at w ↦ λ apart. absurd (apart w.if-place-at.false)
    ])

pub returns : goal.returns
returns c = sym (blank_from c.args.self.now.1 c.args.at c.requires.size c.requires.place (λ k h apart. c.loop-place.invariant k (omega arith) apart))
