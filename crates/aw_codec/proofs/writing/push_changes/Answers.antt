use Rattle.std.proofs.Common.{rules, arith, subst, sym, ◌≡◌, ◌≤◌, length, get_or}
use Rattle.aw_body.specs.declared.change.Change.{Change}
use Rattle.aw_codec.specs.Records.{IsChange}
use Rattle.aw_codec.specs.Spellings as spelling
use Rattle.aw_codec.proofs.Kept.{kept_more, spelled_more}
use Rattle.aw_codec.proofs.callers.Lengths.{change_few}
use Rattle.aw_codec.proofs.writing.push_changes.Goals as goal

pub push_change-requires-clause-small : goal.push_change-requires-clause-small
push_change-requires-clause-small c =
    let changes = c.args.changes.now in
    let at = c.loop-change.change-index in
    let change = c.change-item.result in
    let here : change ≡ get_or changes at change = search rules in
    let few = change_few changes at change c.loop-change-test.true in
    subst (λ (one : Change). length (spelling.change one) ≤ 67108864) (sym here) (omega (arith, few, c.requires.small))

pub loop-change-preserved : goal.loop-change-preserved
loop-change-preserved c =
    let changes = c.args.changes.now in
    let at = c.loop-change.change-index in
    let change = c.change-item.result in
    let here : change ≡ get_or changes at change = search rules in
    record {
      bytes =
          spelled_more spelling.change c.args.out.now.items changes at change c.loop-change.out.items c.push_change.new.out.items c.loop-change-test.true here
          c.loop-change.invariant.bytes c.in_ok-push_change.ensures.value;
      are = kept_more IsChange changes at change c.loop-change-test.true here c.in_ok-push_change.ensures.is c.loop-change.invariant.are;
    }
