use Rattle.std.specs.Prelude.{length, List, Option}
use Rattle.std.proofs.Common.{◌∙◌, ap, sym, arith}
use Rattle.mv_view.specs.Each.{numbers_from}
use Rattle.mv_view.specs.ViewState.{ObjectView, is_owned}
use Rattle.mv_view.proofs.Renewing.{none-owned, length-seen}
use Rattle.mv_view.proofs.view.View.attach.Goals as goal

pub invariant_of-result : goal.invariant_of-result
invariant_of-result c =
    let size = ap length c.fill.ensures.objects ∙ length-seen 0 c.args.catalogue.now c.args.fresh in
    let count = c.len-count.ensures.value in
    let room = c.in_ok-owned.ensures.capacity in
    record {
      owned = c.in_ok-owned.ensures.items ∙ sym (ap (λ (objects : List (Option ObjectView)). numbers_from is_owned 0 objects) c.fill.ensures.objects ∙ none-owned 0 c.args.catalogue.now c.args.fresh);
      places = omega arith;
      seen = c.fill.ensures.seen;
    }
