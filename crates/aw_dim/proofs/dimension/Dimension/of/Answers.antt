use Rattle.std.proofs.Common.{true, false, ◌≡◌, map, length, refl, arith, rules, IsPermutation, IsSortedBy}
use Rattle.aw_dim.specs.DimensionState.{Entry}
use Rattle.aw_dim.specs.inside.Index.{ArePlaced, IsIndexed, indexed_name, precedes}
use Rattle.aw_dim.specs.inside.Making.{AreListed, RiseBy}
use Rattle.aw_dim.proofs.Made.{listed, below_from_all, fit_from_valid, none_placed, rises, name_index, texts_from_all}
use Rattle.aw_dim.proofs.Valid.{valid}
use Rattle.aw_dim.proofs.dimension.Dimension.of.Goals as goal

pub returns-then-not-are_listed-clause-exact : goal.returns-then-not-are_listed-clause-exact
returns-then-not-are_listed-clause-exact c =
    let no : c.are_listed.result ≡ false = search rules in (
      λ e. absurd cc,
      λ is. (let yes : c.are_listed.result ≡ true = c.are_listed.ensures.1 (rw c.as_slice.ensures (listed c.args.entries c.args.next is)) in cc),
    )

pub mark_places-requires-clause-below : goal.mark_places-requires-clause-below
mark_places-requires-clause-below c =
    let is : AreListed c.args.entries c.args.next = search rules in
    let e : c.as_slice-2.result.now ≡ c.args.entries = search rules in
    let n : length c.in_ok-places.places.items ≡ c.args.next = search rules in
    rw (e, n) (below_from_all c.args.entries c.args.next is.below)

pub mark_places-requires-clause-few : goal.mark_places-requires-clause-few
mark_places-requires-clause-few c =
    let is : AreListed c.args.entries c.args.next = search rules in
    let e : c.as_slice-2.result.now ≡ c.args.entries = search rules in
    rw e (omega (arith, is.few, is.most))

pub are_placed-requires : goal.are_placed-requires
are_placed-requires c =
    let is : AreListed c.args.entries c.args.next = search rules in
    let e : c.as_slice-3.result.now ≡ c.args.entries = search rules in
    let n : length c.as_slice-4.result.now ≡ c.args.next = search rules in
    rw (e, n) (below_from_all c.args.entries c.args.next is.below)

pub returns-then-not-are_placed-clause-exact : goal.returns-then-not-are_placed-clause-exact
returns-then-not-are_placed-clause-exact c =
    let no : c.are_placed.result ≡ false = search rules in
    let e : c.as_slice-2.result.now ≡ c.args.entries = search rules in
    let f : c.as_slice-3.result.now ≡ c.args.entries = search rules in
    let p : c.as_slice-4.result.now ≡ c.mark_places.new.places.items = search rules in
    let n : length c.in_ok-places.places.items ≡ c.args.next = search rules in (
      λ h. absurd cc,
      λ is. (let placed : ArePlaced c.as_slice-2.result.now c.mark_places.new.places.items (length c.as_slice-2.result.now) = c.mark_places.ensures.placed (rw (e, n) (fit_from_valid (record { entries = c.args.entries; next = c.args.next }) is)) (none_placed c.as_slice-2.result.now c.in_ok-places.places.items) in
          let all : ArePlaced c.args.entries c.mark_places.new.places.items (length c.args.entries) = rw (← e) placed in
          let yes : c.are_placed.result ≡ true = c.are_placed.ensures.1 (rw (f, p) all) in cc),
    )

pub returns-then-not-names_rise-clause-exact : goal.returns-then-not-names_rise-clause-exact
returns-then-not-names_rise-clause-exact c =
    let f : c.as_slice-3.result.now ≡ c.args.entries = search rules in
    let p : c.as_slice-4.result.now ≡ c.mark_places.new.places.items = search rules in
    let yes : c.are_placed.result ≡ true = search rules in
    let placed : ArePlaced c.args.entries c.mark_places.new.places.items (length c.args.entries) = rw (← f, ← p) (c.are_placed.ensures.0 yes) in
    let g : c.as_slice-5.result.now ≡ c.args.entries = search rules in
    let q : c.as_slice-6.result.now ≡ c.mark_places.new.places.items = search rules in
    let same : IsPermutation (map (λ (entry : Entry). entry.0) c.args.entries) c.in_ok-by_name.by_name.items = rw (← g) c.in_ok-by_name.ensures.same in
    let r : c.as_slice-7.result.now ≡ c.args.entries = search rules in
    let s : c.as_slice-8.result.now ≡ c.mark_places.new.places.items = search rules in
    let t : c.as_slice-9.result.now ≡ c.in_ok-by_name.by_name.items = search rules in
    let no : c.names_rise.result ≡ false = search rules in
    let sorted : IsSortedBy (λ one other. precedes (indexed_name c.args.entries c.mark_places.new.places.items one) (indexed_name c.args.entries c.mark_places.new.places.items other)) c.in_ok-by_name.by_name.items = rw (← g, ← q) c.in_ok-by_name.ensures.sorted in (
      λ h. absurd cc,
      λ is. (let rise : RiseBy (indexed_name c.args.entries c.mark_places.new.places.items) c.in_ok-by_name.by_name.items = rises c.args.entries c.mark_places.new.places.items c.in_ok-by_name.by_name.items placed same c.args.next is sorted in
          let up : c.names_rise.result ≡ true = c.names_rise.ensures.1 (rw (r, s, t) rise) in cc),
    )

pub invariant_of-result : goal.invariant_of-result
invariant_of-result c =
    let f : c.as_slice-3.result.now ≡ c.args.entries = search rules in
    let p : c.as_slice-4.result.now ≡ c.mark_places.new.places.items = search rules in
    let yes : c.are_placed.result ≡ true = search rules in
    let placed : ArePlaced c.args.entries c.mark_places.new.places.items (length c.args.entries) = rw (← f, ← p) (c.are_placed.ensures.0 yes) in
    let g : c.as_slice-5.result.now ≡ c.args.entries = search rules in
    let q : c.as_slice-6.result.now ≡ c.mark_places.new.places.items = search rules in
    let same : IsPermutation (map (λ (entry : Entry). entry.0) c.args.entries) c.in_ok-by_name.by_name.items = rw (← g) c.in_ok-by_name.ensures.same in
    let r : c.as_slice-7.result.now ≡ c.args.entries = search rules in
    let s : c.as_slice-8.result.now ≡ c.mark_places.new.places.items = search rules in
    let t : c.as_slice-9.result.now ≡ c.in_ok-by_name.by_name.items = search rules in
    let up : c.names_rise.result ≡ true = search rules in
    let rise : RiseBy (indexed_name c.args.entries c.mark_places.new.places.items) c.in_ok-by_name.by_name.items = rw (← r, ← s, ← t) (c.names_rise.ensures.0 up) in
    let is : AreListed c.args.entries c.args.next = search rules in
    let next : length c.mark_places.new.places.items ≡ c.args.next = search rules in
    let stands : IsIndexed c.args.entries c.mark_places.new.places.items c.in_ok-by_name.by_name.items = record {
      placed = placed;
      indexed = name_index c.args.entries c.mark_places.new.places.items c.in_ok-by_name.by_name.items placed same rise;
      texts = texts_from_all c.args.entries is.named;
      most = omega (arith, is.most, next);
    } in
    let e : c.into_vec-entries.result.items ≡ c.args.entries = search rules in
    rw e stands

pub returns-clause-exact : goal.returns-clause-exact
returns-clause-exact c =
    let f : c.as_slice-3.result.now ≡ c.args.entries = search rules in
    let p : c.as_slice-4.result.now ≡ c.mark_places.new.places.items = search rules in
    let yes : c.are_placed.result ≡ true = search rules in
    let placed : ArePlaced c.args.entries c.mark_places.new.places.items (length c.args.entries) = rw (← f, ← p) (c.are_placed.ensures.0 yes) in
    let g : c.as_slice-5.result.now ≡ c.args.entries = search rules in
    let q : c.as_slice-6.result.now ≡ c.mark_places.new.places.items = search rules in
    let same : IsPermutation (map (λ (entry : Entry). entry.0) c.args.entries) c.in_ok-by_name.by_name.items = rw (← g) c.in_ok-by_name.ensures.same in
    let r : c.as_slice-7.result.now ≡ c.args.entries = search rules in
    let s : c.as_slice-8.result.now ≡ c.mark_places.new.places.items = search rules in
    let t : c.as_slice-9.result.now ≡ c.in_ok-by_name.by_name.items = search rules in
    let up : c.names_rise.result ≡ true = search rules in
    let rise : RiseBy (indexed_name c.args.entries c.mark_places.new.places.items) c.in_ok-by_name.by_name.items = rw (← r, ← s, ← t) (c.names_rise.ensures.0 up) in
    let is : AreListed c.args.entries c.args.next = search rules in
    let next : length c.mark_places.new.places.items ≡ c.args.next = search rules in
    let stands : IsIndexed c.args.entries c.mark_places.new.places.items c.in_ok-by_name.by_name.items = record {
      placed = placed;
      indexed = name_index c.args.entries c.mark_places.new.places.items c.in_ok-by_name.by_name.items placed same rise;
      texts = texts_from_all c.args.entries is.named;
      most = omega (arith, is.most, next);
    } in
    (λ _. rw (← next) (valid c.args.entries c.mark_places.new.places.items c.in_ok-by_name.by_name.items stands), λ _. refl)
