use Rattle.std.proofs.Common.{ℕ, ◌≡◌, ◌<◌, ◌≤◌, ◌-◌, ◌∙◌, ap, min, length, insert, remove, arith, rules}
use Rattle.std.proofs.lemmas.List.Edits.{length-remove}
use Rattle.std.proofs.lemmas.Option.{slice_get_within}
use Rattle.aw_dim.specs.inside.Index.{Has}
use Rattle.aw_dim.proofs.Changes.{fit, shift-has, shift-had}
use Rattle.aw_dim.proofs.NameIndexes.{index_same}
use Rattle.aw_dim.proofs.Valid.{most}
use Rattle.aw_dim.proofs.Views.{at_view, moved_view}
use Rattle.aw_dim.proofs.dimension.Dimension.move_to.Goals as goal

pub shift-requires-clause-few : goal.shift-requires-clause-few
shift-requires-clause-few c =
    let few = most c.self.inside.entries.items c.self.inside.places.items c.self.inside.by_name.items c.self.invariant in
    search rules

pub shift-requires-clause-from : goal.shift-requires-clause-from
shift-requires-clause-from c =
    let here = at_view (record { entries = c.self.inside.entries.items; next = length c.self.inside.places.items }) c.args.self.now c.in-Some.from c.args.slot c.self.view_is (c.place.ensures.here c.in-Some.from c.in-Some.is) in
    let within : c.in-Some.from < length c.self.inside.entries.items = slice_get_within c.self.inside.entries.items c.in-Some.from (c.args.slot, here.name) here.value in
    search rules

pub invariant_of-self : goal.invariant_of-self
invariant_of-self c =
    let here = at_view (record { entries = c.self.inside.entries.items; next = length c.self.inside.places.items }) c.args.self.now c.in-Some.from c.args.slot c.self.view_is (c.place.ensures.here c.in-Some.from c.in-Some.is) in
    let within : c.in-Some.from < length c.self.inside.entries.items = slice_get_within c.self.inside.entries.items c.in-Some.from (c.args.slot, here.name) here.value in
    let n = length-remove c.self.inside.entries.items c.in-Some.from within in
    let to : c.min-to.result ≤ length (remove c.self.inside.entries.items c.in-Some.from) = (let len : c.len-last.result ≡ length c.self.inside.entries.items = search rules in omega (arith, n, len, c.min-to.ensures)) in
    let is : c.shift.new.entries.items ≡ insert (remove c.self.inside.entries.items c.in-Some.from) c.min-to.result (c.args.slot, here.name) = c.shift.ensures.entries (c.args.slot, here.name) (rw c.from.ensures here.value) ∙ ap (λ (from : ℕ). insert (remove c.self.inside.entries.items from) c.min-to.result (c.args.slot, here.name)) c.from.ensures in
    record {
      placed = c.shift.ensures.placed;
      indexed = rw is (index_same (Has c.self.inside.entries.items) (Has (insert (remove c.self.inside.entries.items c.in-Some.from) c.min-to.result (c.args.slot, here.name))) c.self.inside.by_name.items
          (shift-has c.self.inside.entries.items c.self.inside.places.items c.self.invariant.placed c.in-Some.from c.min-to.result c.args.slot here.name here.value to)
          (shift-had c.self.inside.entries.items c.self.inside.places.items c.self.invariant.placed c.in-Some.from c.min-to.result c.args.slot here.name here.value to)
          c.self.invariant.indexed);
      texts = rw is (λ slot name has. c.self.invariant.texts slot name (shift-had c.self.inside.entries.items c.self.inside.places.items c.self.invariant.placed c.in-Some.from c.min-to.result c.args.slot here.name here.value to slot name has));
      most = omega (arith, c.shift.ensures.next, c.self.invariant.most);
    }

pub returns-clause-ok : goal.returns-clause-ok
returns-clause-ok c =
    let here = at_view (record { entries = c.self.inside.entries.items; next = length c.self.inside.places.items }) c.args.self.now c.in-Some.from c.args.slot c.self.view_is (c.place.ensures.here c.in-Some.from c.in-Some.is) in
    let to : c.min-to.result ≡ min c.args.place (length c.self.inside.entries.items - 1) = search rules in
    let is : c.shift.new.entries.items ≡ insert (remove c.self.inside.entries.items c.in-Some.from) (min c.args.place (length c.self.inside.entries.items - 1)) (c.args.slot, here.name) =
    c.shift.ensures.entries (c.args.slot, here.name) (rw c.from.ensures here.value)
    ∙ ap (λ (from : ℕ). insert (remove c.self.inside.entries.items from) c.min-to.result (c.args.slot, here.name)) c.from.ensures
    ∙ ap (λ (at : ℕ). insert (remove c.self.inside.entries.items c.in-Some.from) at (c.args.slot, here.name)) to in
    rw (← c.self.view_is) (moved_view (record { entries = c.self.inside.entries.items; next = length c.self.inside.places.items }) (length c.self.inside.places.items) c.args.slot c.in-Some.from (fit c.self.inside.entries.items c.self.inside.places.items c.self.inside.by_name.items c.self.invariant) here c.args.place c.shift.new.entries.items (length c.shift.new.places.items) is c.shift.ensures.next)
