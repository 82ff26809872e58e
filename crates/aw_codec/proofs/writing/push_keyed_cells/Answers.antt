use Rattle.std.proofs.Common.{rules, ◌≡◌, get_or}
use Rattle.aw_codec.specs.Records.{IsKeyedCell}
use Rattle.aw_codec.specs.Spellings as spelling
use Rattle.aw_codec.proofs.Kept.{kept_more, spelled_more}
use Rattle.aw_codec.proofs.writing.push_keyed_cells.Goals as goal

pub loop-change-preserved : goal.loop-change-preserved
loop-change-preserved c =
    let cells = c.args.changes.now in
    let at = c.loop-change.change-index in
    let change = c.change-item.result in
    let here : change ≡ get_or cells at change = search rules in
    record {
      bytes =
          spelled_more spelling.keyed_cell c.args.out.now.items cells at change c.loop-change.out.items c.push_keyed_cell.new.out.items c.loop-change-test.true here
          c.loop-change.invariant.bytes c.in_ok-push_keyed_cell.ensures.value;
      are = kept_more IsKeyedCell cells at change c.loop-change-test.true here c.in_ok-push_keyed_cell.ensures.is c.loop-change.invariant.are;
    }
