use Rattle.std.proofs.Common.{rules, ◌≡◌, true, false, length}
use Rattle.std.specs.Prelude.{is_some}
use Rattle.std.specs.Str.{bytes_eq}
use Rattle.std.specs.HashMap.{get_by}
use Rattle.aw_cell.specs.Names.{lowercase}
use Rattle.ses_step.proofs.FirstPlaces.{places-another, places-first}
use Rattle.ses_step.proofs.names.Names.push.Goals as goal
use Rattle.ses_step.proofs.names.Names.push.Goals.{then-not-contains_key+in_ok-insert, else-not-contains_key}

pub invariant_of-self-2 : goal.invariant_of-self-2
invariant_of-self-2 c =
    let lowered : c.in_ok-key.key.items ≡ lowercase c.args.name = search rules in
    let listed : c.reserve.new.self.items ≡ c.self.inside.listed.items = c.reserve.ensures.items in
    elim c.if-not-contains_key.branch [
      | then-not-contains_key+in_ok-insert w ↦
          let pushed = c.in_ok-push.ensures.items in
          let absent : is_some (get_by (λ k. bytes_eq c.in_ok-key.key.items k.items) c.self.inside.places) ≡ false = search rules in
          let at : w.len.result ≡ length c.self.inside.listed.items = search rules in
          rw (w.self-inside-is, pushed, w.self-inside-is, listed) (
          places-first c.self.inside.listed.items c.args.name c.in_ok-key.key.items lowered c.self.inside.places c.self.invariant absent w.insert.new.self (rw at at w.in_ok-insert.ensures.updates))
      | else-not-contains_key w ↦
          let pushed = c.in_ok-push.ensures.items in
          let found : is_some (get_by (λ k. bytes_eq c.in_ok-key.key.items k.items) c.self.inside.places) ≡ true = search rules in
          rw (w.self-inside-is, pushed, w.self-inside-is, listed) (
          places-another c.self.inside.listed.items c.args.name c.in_ok-key.key.items lowered c.self.inside.places c.self.invariant found)
    ]
