use Rattle.std.proofs.Common.{◌≡◌, ◌<◌, ◌≤◌, ◌+◌, ◌++◌, [], ◌∷◌, ◌∙◌, insert, length, length-append, ap, arith, rules}
use Rattle.std.proofs.lemmas.List.Edits.{length-insert}
use Rattle.aw_dim.specs.inside.Index.{ArePlaced, Has, HasBut, IsNameIndex, IsIndexed}
use Rattle.aw_dim.specs.DimensionState.{Entry}
use Rattle.aw_dim.proofs.Changes.{fit, below_from_fit, put-fit, put-before, put-listed, put-has, put-unused, put-texts}
use Rattle.aw_dim.proofs.Valid.{few}
use Rattle.aw_dim.proofs.change.put.Goals as goal

pub mark_places-requires-clause-below : goal.mark_places-requires-clause-below
mark_places-requires-clause-below c =
    let e : c.as_slice.result.now ≡ insert c.args.entries.now.items c.args.place (length c.args.places.now.items, c.args.name) = search rules in
    let n : length c.args.places.now.items < length c.push.new.self.items = search rules in
    rw e (below_from_fit (insert c.args.entries.now.items c.args.place (length c.args.places.now.items, c.args.name)) (length c.push.new.self.items) (put-fit c.args.entries.now.items c.args.places.now.items c.args.by_name.now.items c.requires.indexed c.args.place c.args.name (search rules) c.requires.unused (length c.push.new.self.items) n))

pub mark_places-requires-clause-few : goal.mark_places-requires-clause-few
mark_places-requires-clause-few c =
    let e : c.as_slice.result.now ≡ insert c.args.entries.now.items c.args.place (length c.args.places.now.items, c.args.name) = search rules in
    let within : c.args.place ≤ length c.args.entries.now.items = search rules in
    let n = length-insert c.args.entries.now.items c.args.place (length c.args.places.now.items, c.args.name) within in
    let fewer = few c.args.entries.now.items (length c.args.places.now.items) (fit c.args.entries.now.items c.args.places.now.items c.args.by_name.now.items c.requires.indexed) in
    let room : length c.args.places.now.items < 65536 = search rules in
    rw e (omega (arith, n, fewer, room))

pub enlist-requires-clause-placed : goal.enlist-requires-clause-placed
enlist-requires-clause-placed c =
    let slice : c.as_slice.result.now ≡ insert c.args.entries.now.items c.args.place (length c.args.places.now.items, c.args.name) = search rules in
    let other : c.as_slice-2.result.now ≡ c.as_slice.result.now = search rules in
    let same : c.as_slice-3.result.now ≡ c.mark_places.new.places.items = search rules in
    let n : length c.args.places.now.items < length c.push.new.self.items = search rules in
    let p : c.push.new.self.items ≡ c.args.places.now.items ++ 0 ∷ [] = search rules in
    let placed : ArePlaced c.as_slice.result.now c.mark_places.new.places.items (length c.as_slice.result.now) =
    c.mark_places.ensures.placed (rw slice (put-fit c.args.entries.now.items c.args.places.now.items c.args.by_name.now.items c.requires.indexed c.args.place c.args.name (search rules) c.requires.unused (length c.push.new.self.items) n)) (rw (slice, p) (put-before c.args.entries.now.items c.args.places.now.items c.args.by_name.now.items c.requires.indexed c.args.place c.args.name (search rules) c.requires.unused (0 ∷ []))) in
    rw (other, same) placed

pub enlist-requires-clause-listed : goal.enlist-requires-clause-listed
enlist-requires-clause-listed c =
    let e : c.as_slice-2.result.now ≡ insert c.args.entries.now.items c.args.place (length c.args.places.now.items, c.args.name) = search rules in
    let n : c.len-slot.result ≡ length c.args.places.now.items = search rules in
    let b : c.reserve.new.self.items ≡ c.args.by_name.now.items = search rules in
    rw (e, n, b) (put-listed c.args.entries.now.items c.args.places.now.items c.args.by_name.now.items c.requires.indexed c.args.place c.args.name (search rules) c.requires.unused)

pub enlist-requires-clause-value : goal.enlist-requires-clause-value
enlist-requires-clause-value c =
    let e : c.as_slice-2.result.now ≡ insert c.args.entries.now.items c.args.place (length c.args.places.now.items, c.args.name) = search rules in
    let n : c.len-slot.result ≡ length c.args.places.now.items = search rules in
    rw (e, n) (put-has c.args.entries.now.items c.args.places.now.items c.args.by_name.now.items c.requires.indexed c.args.place c.args.name (search rules) c.requires.unused)

pub enlist-requires-clause-unused : goal.enlist-requires-clause-unused
enlist-requires-clause-unused c =
    let e : c.as_slice-2.result.now ≡ insert c.args.entries.now.items c.args.place (length c.args.places.now.items, c.args.name) = search rules in
    let n : c.len-slot.result ≡ length c.args.places.now.items = search rules in
    rw (e, n) (put-unused c.args.entries.now.items c.args.places.now.items c.args.by_name.now.items c.requires.indexed c.args.place c.args.name (search rules) c.requires.unused)

pub returns-clause-indexed : goal.returns-clause-indexed
returns-clause-indexed c =
    let e : c.insert.new.self.items ≡ insert c.args.entries.now.items c.args.place (length c.args.places.now.items, c.args.name) = search rules in
    let same : c.as_slice.result.now ≡ c.insert.new.self.items = search rules in
    let other : c.as_slice-2.result.now ≡ c.insert.new.self.items = search rules in
    let room : length c.args.places.now.items < 65536 = search rules in
    let more : length c.push.new.self.items ≡ length c.args.places.now.items + 1 = search rules in
    let slice : c.as_slice.result.now ≡ insert c.args.entries.now.items c.args.place (length c.args.places.now.items, c.args.name) = search rules in
    let n : length c.args.places.now.items < length c.push.new.self.items = search rules in
    let p : c.push.new.self.items ≡ c.args.places.now.items ++ 0 ∷ [] = search rules in
    let placed : ArePlaced c.as_slice.result.now c.mark_places.new.places.items (length c.as_slice.result.now) =
    c.mark_places.ensures.placed (rw slice (put-fit c.args.entries.now.items c.args.places.now.items c.args.by_name.now.items c.requires.indexed c.args.place c.args.name (search rules) c.requires.unused (length c.push.new.self.items) n)) (rw (slice, p) (put-before c.args.entries.now.items c.args.places.now.items c.args.by_name.now.items c.requires.indexed c.args.place c.args.name (search rules) c.requires.unused (0 ∷ []))) in
    record {
      placed = rw (← same) placed;
      indexed = rw (← other) c.enlist.ensures.listed;
      texts = rw e (put-texts c.args.entries.now.items c.args.places.now.items c.args.by_name.now.items c.requires.indexed c.args.place c.args.name (search rules) c.requires.unused (c.enlist.ensures.text, c.requires.named));
      most = omega (arith, c.mark_places.ensures.next, more, room);
    }
