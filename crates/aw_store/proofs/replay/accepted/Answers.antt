use Rattle.std.proofs.Common.{◌∷◌, [], length, sym, ap, ◌∙◌, arith, length-append, Ok}
use Rattle.std.proofs.lemmas.Iterator.Adapters.{YieldsList-from_vec}
use Rattle.std.proofs.lemmas.Iterator.Consumers.{YieldsList-turn, YieldsList-end}
use Rattle.aw_store.proofs.Taking.{first-none, first-more, first-not, first-all}
use Rattle.aw_store.proofs.replay.accepted.Goals as goal

pub loop-def-init : goal.loop-def-init
loop-def-init c = rw c.new-catalogue.ensures (first-none c.args.definitions)

pub loop-def-preserved : goal.loop-def-preserved
loop-def-preserved c =
    let loop = c.loop-def in
    let turn = YieldsList-turn (YieldsList-from_vec c.args.definitions (c.into_iter-def-iterator.ensures.into_iter_gives.0 ∙ c.into_vec-def-items.ensures) (omega (arith, c.into_iter-def-iterator.ensures.into_iter_gives.1, c.into_vec-def-items.result.ok.0, ap length c.into_vec-def-items.ensures))) loop.yielded _ loop.yielded_by _ c.next.new.self c.in-Some.def c.in-Some.is c.next.ensures.steps in
    rw (c.accept.ensures.after (c.in-Ok-true.is ∙ ap Ok c.in-Ok-true.field-0-test)) (first-more c.args.definitions loop.catalogue (length loop.yielded) c.in-Some.def loop.invariant turn.0 turn.1 _ (length-append loop.yielded (c.in-Some.def ∷ [])) (sym c.in-Ok-true.field-0-test ∙ c.in-Ok-true.ensures.accepted))

pub returns-in-Ok-false : goal.returns-in-Ok-false
returns-in-Ok-false c =
    let loop = c.loop-def in
    let turn = YieldsList-turn (YieldsList-from_vec c.args.definitions (c.into_iter-def-iterator.ensures.into_iter_gives.0 ∙ c.into_vec-def-items.ensures) (omega (arith, c.into_iter-def-iterator.ensures.into_iter_gives.1, c.into_vec-def-items.result.ok.0, ap length c.into_vec-def-items.ensures))) loop.yielded _ loop.yielded_by _ c.next.new.self c.in-Some.def c.in-Some.is c.next.ensures.steps in
    first-not c.args.definitions loop.catalogue (length loop.yielded) c.in-Some.def loop.invariant turn.0 turn.1 (sym c.in-Ok-false.field-0-test ∙ c.in-Ok-false.ensures.accepted)

pub returns : goal.returns
returns c =
    let loop = c.loop-def in
    let end = YieldsList-end (YieldsList-from_vec c.args.definitions (c.into_iter-def-iterator.ensures.into_iter_gives.0 ∙ c.into_vec-def-items.ensures) (omega (arith, c.into_iter-def-iterator.ensures.into_iter_gives.1, c.into_vec-def-items.result.ok.0, ap length c.into_vec-def-items.ensures))) loop.yielded _ loop.yielded_by _ c.next.new.self c.in-None.is c.next.ensures.steps in
    first-all c.args.definitions loop.catalogue (length loop.yielded) loop.invariant end.1
