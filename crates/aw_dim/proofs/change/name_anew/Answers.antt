use Rattle.std.proofs.Common.{ℕ, List, ◌≡◌, Some, slice_get, slice_set, length, refl, ap, rules}
use Rattle.std.proofs.lemmas.Option.{slice_get_read, slice_get_within}
use Rattle.aw_dim.specs.DimensionState.{Entry}
use Rattle.aw_dim.proofs.Editing.{one_element}
use Rattle.aw_dim.specs.inside.Index.{HasBut, IsNameIndex}
use Rattle.aw_dim.proofs.Changes.{rename-placed, rename-listed, rename-has, rename-unused, rename-texts}
use Rattle.aw_dim.proofs.change.name_anew.Goals as goal

pub enlist-requires-clause-placed : goal.enlist-requires-clause-placed
enlist-requires-clause-placed c =
    let e : c.as_slice-2.result.now ≡ slice_set c.args.entries.now.items c.args.place (c.args.slot, c.args.name) = search rules in
    rw e (rename-placed c.args.entries.now.items c.args.places.now c.args.by_name.now.items c.requires.indexed c.args.place c.args.slot c.requires.here.name c.requires.here.value c.args.name)

pub enlist-requires-clause-listed : goal.enlist-requires-clause-listed
enlist-requires-clause-listed c =
    let e : c.as_slice-2.result.now ≡ slice_set c.args.entries.now.items c.args.place (c.args.slot, c.args.name) = search rules in
    let here : slice_get c.args.entries.now.items c.args.place ≡ Some c.index.result.now = slice_get_read c.args.entries.now.items (length c.args.entries.now.items) c.args.place c.index.result.now refl (slice_get_within c.args.entries.now.items c.args.place (c.args.slot, c.requires.here.name) c.requires.here.value) c.index.ensures in
    let same : c.index.result.now.0 ≡ c.args.slot = ap (λ (entry : Entry). entry.0) (one_element c.args.entries.now.items c.args.place c.index.result.now (c.args.slot, c.requires.here.name) here c.requires.here.value) in
    let listed : IsNameIndex (HasBut c.args.entries.now.items c.args.slot) c.unlist.new.by_name.items = rw (← same, ← c.as_slice.ensures.value) c.unlist.ensures.listed in
    rw e (rename-listed c.args.entries.now.items c.args.places.now c.args.by_name.now.items c.requires.indexed c.args.place c.args.slot c.requires.here.name c.requires.here.value c.args.name c.unlist.new.by_name.items listed)

pub enlist-requires-clause-value : goal.enlist-requires-clause-value
enlist-requires-clause-value c =
    let e : c.as_slice-2.result.now ≡ slice_set c.args.entries.now.items c.args.place (c.args.slot, c.args.name) = search rules in
    rw e (rename-has c.args.entries.now.items c.args.places.now c.args.by_name.now.items c.requires.indexed c.args.place c.args.slot c.requires.here.name c.requires.here.value c.args.name)

pub enlist-requires-clause-unused : goal.enlist-requires-clause-unused
enlist-requires-clause-unused c =
    let e : c.as_slice-2.result.now ≡ slice_set c.args.entries.now.items c.args.place (c.args.slot, c.args.name) = search rules in
    rw e (rename-unused c.args.entries.now.items c.args.places.now c.args.by_name.now.items c.requires.indexed c.args.place c.args.slot c.requires.here.name c.requires.here.value c.args.name c.requires.unused)

pub returns-clause-indexed : goal.returns-clause-indexed
returns-clause-indexed c =
    let e : c.as_slice-2.result.now ≡ slice_set c.args.entries.now.items c.args.place (c.args.slot, c.args.name) = search rules in
    record {
      placed = rename-placed c.args.entries.now.items c.args.places.now c.args.by_name.now.items c.requires.indexed c.args.place c.args.slot c.requires.here.name c.requires.here.value c.args.name;
      indexed = rw (← e) c.enlist.ensures.listed;
      texts = rename-texts c.args.entries.now.items c.args.places.now c.args.by_name.now.items c.requires.indexed c.args.place c.args.slot c.requires.here.name c.requires.here.value c.args.name (c.enlist.ensures.text, c.requires.named);
      most = c.requires.indexed.most;
    }
