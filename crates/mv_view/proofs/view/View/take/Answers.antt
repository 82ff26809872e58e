use Rattle.std.specs.Prelude.{vec_capacity}
use Rattle.mv_view.specs.Rules as rule
use Rattle.mv_view.proofs.ChangedPlaces.{IsListed-same, owned-renewed}
use Rattle.mv_view.proofs.view.View.take.Goals as goal

pub invariant_of-self : goal.invariant_of-self
invariant_of-self c =
    IsListed-same c.self.inside.objects c.renew_all.new.objects c.self.inside.owned.items (vec_capacity c.self.inside.owned) (λ at found. rule.renewed (rule.latest_of c.args.fresh at) found) c.renew_all.ensures.objects
    (λ at found. owned-renewed (rule.latest_of c.args.fresh at) found) c.renew_all.ensures.seen c.self.invariant
