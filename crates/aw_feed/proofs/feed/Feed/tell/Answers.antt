use Rattle.aw_feed.proofs.Telling.{have-heard}
use Rattle.aw_feed.proofs.feed.Feed.tell.Goals as goal

pub returns : goal.returns
returns g c = have-heard _ _ _ _ c.retain_mut.ensures.filtered
    (λ listener. let its = goal.Listener-dyn g (listener.vtable, listener.value) in record { told = its.told listener.value; last = its.last listener.value })
    (c.args.number, c.args.payload.now)
    (λ shown left stays after called. let met = called.met in ((met.1.0, met.1.1.0, met.1.1.1), (λ i. (met.0.0 i, met.0.1 i))))
