-- The slots in rising order of the names.
use Rattle.std.proofs.Common.{ℕ, Bool, true, false, ◌≡◌, ◌≢◌, ◌+◌, ◌<◌, ◌≤◌, ◌⊎◌, List, length, slice_get, slice_index_or, Some, None, insert, remove, refl, sym, ◌∙◌, ap, arith, inl, inr}
use Rattle.std.specs.List.Sorted.{IsPartitionedBy, IsPartitionPoint}
use Rattle.std.proofs.lemmas.Bool.{cases_lt, cases_order}
use Rattle.std.proofs.lemmas.Option.{slice_get_within, slice_get-get_or, get_or_from_slice_get}
use Rattle.aw_dim.specs.DimensionState.{Entry}
use Rattle.aw_dim.specs.inside.Index.{Has, HasBut, ArePlaced, IsNameIndex, indexed_name, precedes}
use Rattle.aw_dim.proofs.Editing.{insert_at, one_element, Shifted, Drawn, shifted, drawn, kept, left_in, shifted_order}
use Rattle.aw_dim.proofs.NameOrder.{precedes-trans, precedes-irrefl, precedes-total, differ}
use Rattle.aw_dim.proofs.PlacesOfSlots.{name_of_placed, one_name}

-- an index of the same slots and names
pub index_same : (has same : ℕ → List ℕ → Type 0) (slots : List ℕ) → ((slot : ℕ) (name : List ℕ) → has slot name → same slot name) → ((slot : ℕ) (name : List ℕ) → same slot name → has slot name) → IsNameIndex has slots → IsNameIndex same slots
index_same has same slots to from index = record {
  rise = λ i j one other name later h at_i at_j p q. index.rise i j one other name later h at_i at_j (from one name p) (from other later q);
  named = λ i slot h. let known = index.named i slot h in (known.0, to slot known.0 known.1);
  all = λ slot name h. index.all slot name (from slot name h);
}

-- the names before the rank stand before a name, and the others don't
pub record Splits (has : ℕ → List ℕ → Type 0) (slots : List ℕ) (name : List ℕ) (rank : ℕ) : Type 0 where
  pub before : (i slot : ℕ) (known : List ℕ) → i < rank → slice_get slots i ≡ Some slot → has slot known → precedes known name ≡ true
  pub behind : (i slot : ℕ) (known : List ℕ) → rank ≤ i → slice_get slots i ≡ Some slot → has slot known → precedes known name ≡ false

module _ (entries : List Entry) (places : List ℕ) (placed : ArePlaced entries places (length entries)) (has : ℕ → List ℕ → Type 0) (within : (slot : ℕ) (name : List ℕ) → has slot name → Has entries slot name) (slots : List ℕ) (index : IsNameIndex has slots) (name : List ℕ) where
  abbrev pub stands_before : ℕ → Bool
  stands_before slot = precedes (indexed_name entries places slot) name

  pub partitioned : IsPartitionedBy (λ slot. precedes (indexed_name entries places slot) name) slots
  partitioned i j d le h g =
      elim (cases_lt i j) [
        | inr more ↦ let same : i ≡ j = omega (arith, le, more) in rw same g
        | inl less ↦
            let at_i = slice_get-get_or slots i d (omega (arith, le, h)) in
            let at_j = slice_get-get_or slots j d h in
            let one = index.named i (slice_index_or slots i d) at_i in
            let other = index.named j (slice_index_or slots j d) at_j in
            let rises = index.rise i j (slice_index_or slots i d) (slice_index_or slots j d) one.0 other.0 less at_i at_j one.1 other.1 in
            let name_i = name_of_placed entries places (slice_index_or slots i d) one.0 placed (within (slice_index_or slots i d) one.0 one.1) in
            let name_j = name_of_placed entries places (slice_index_or slots j d) other.0 placed (within (slice_index_or slots j d) other.0 other.1) in
            ap (λ (known : List ℕ). precedes known name) name_i ∙ precedes-trans one.0 other.0 name rises (sym (ap (λ (known : List ℕ). precedes known name) name_j) ∙ g)
      ]

  pub splits : (rank : ℕ) → IsPartitionPoint (λ slot. precedes (indexed_name entries places slot) name ≡ true) (λ slot. precedes (indexed_name entries places slot) name ≡ false) slots rank → Splits has slots name rank
  splits rank point = record {
    before = λ i slot known h at_i p. sym (ap (λ (other : List ℕ). precedes other name) (name_of_placed entries places slot known placed (within slot known p)))
        ∙ ap stands_before (sym (get_or_from_slice_get slots i slot 0 at_i)) ∙ point.0 i 0 (omega arith) h;
    behind = λ i slot known h at_i p. sym (ap (λ (other : List ℕ). precedes other name) (name_of_placed entries places slot known placed (within slot known p)))
        ∙ ap stands_before (sym (get_or_from_slice_get slots i slot 0 at_i)) ∙ point.1 i 0 h (slice_get_within slots i slot at_i);
  }

module _ (has : ℕ → List ℕ → Type 0) (slots : List ℕ) (index : IsNameIndex has slots) where
  -- a slot is listed once
  pub listed_once : (i j slot : ℕ) → slice_get slots i ≡ Some slot → slice_get slots j ≡ Some slot → i ≡ j
  listed_once i j slot at_i at_j =
      let known = index.named i slot at_i in
      elim (cases_order i j) [
        | inl e ↦ e
        | inr other ↦ elim other [
          | inl less ↦ absurd (precedes-irrefl known.0 (index.rise i j slot slot known.0 known.0 less at_i at_j known.1 known.1))
          | inr more ↦ absurd (precedes-irrefl known.0 (index.rise j i slot slot known.0 known.0 more at_j at_i known.1 known.1))
        ]
      ]

  -- two slots of one name are one
  pub one_slot : (one other : ℕ) (name : List ℕ) → has one name → has other name → one ≡ other
  one_slot one other name h g =
      let i = index.all one name h in
      let j = index.all other name g in
      elim (cases_order i.0 j.0) [
        | inl e ↦ one_element slots j.0 one other (rw e at i.1) j.1
        | inr apart ↦ elim apart [
          | inl less ↦ absurd (precedes-irrefl name (index.rise i.0 j.0 one other name name less i.1 j.1 h g))
          | inr more ↦ absurd (precedes-irrefl name (index.rise j.0 i.0 other one name name more j.1 i.1 g h))
        ]
      ]

  -- a slot with a name stands at the name's rank
  pub at_rank : (name : List ℕ) (rank : ℕ) → Splits has slots name rank → (slot : ℕ) → has slot name → slice_get slots rank ≡ Some slot
  at_rank name rank split slot h =
      let i = index.all slot name h in
      elim (cases_order i.0 rank) [
        | inl e ↦ rw e at i.1
        | inr apart ↦ elim apart [
          | inl less ↦ absurd (precedes-irrefl name (split.before i.0 slot name less i.1 h))
          | inr more ↦ absurd (earlier i.0 i.1 more)
        ]
      ]
    where
      earlier : (i : ℕ) → slice_get slots i ≡ Some slot → rank < i → ⊥
      earlier i at_i more =
          let within = slice_get_within slots i slot at_i in
          let at_rank = slice_get-get_or slots rank 0 (omega (arith, more, within)) in
          let known = index.named rank (slice_index_or slots rank 0) at_rank in
          let less = index.rise rank i (slice_index_or slots rank 0) slot known.0 name more at_rank at_i known.1 h in
          let no = split.behind rank (slice_index_or slots rank 0) known.0 (omega arith) at_rank known.1 in
          let e : true ≡ false = sym less ∙ no in
          cc

module _ (entries : List Entry) (places : List ℕ) (placed : ArePlaced entries places (length entries)) (slot : ℕ) (name : List ℕ) (value : Has entries slot name) (slots : List ℕ) (rank : ℕ) where
  but : (held : ℕ) (known other : List ℕ) → HasBut entries slot held known → Has entries held other → HasBut entries slot held other
  but held known other old has = record { place = has.place; value = has.value; other = old.other }

  -- the slot that is put in at its name's rank
  pub index-insert : rank ≤ length slots → IsNameIndex (HasBut entries slot) slots → Splits (HasBut entries slot) slots name rank → ((held : ℕ) → HasBut entries slot held name → ⊥) → IsNameIndex (Has entries) (insert slots rank slot)
  index-insert within index split unused = record {
    rise = λ i j one other known later less h g p q.
        elim (shifted slots rank i slot one within h) [
          | inl first ↦ elim (shifted slots rank j slot other within g) [
            | inl second ↦ let e = first.0 in let f = second.0 in absurd (omega (arith, e, f, less))
            | inr second ↦ behind j one other known later (let e = first.0 in omega (arith, e, less)) (first.1) second p q
          ]
          | inr first ↦ elim (shifted slots rank j slot other within g) [
            | inl second ↦ before i one other known later (let e = second.0 in omega (arith, e, less)) second.1 first p q
            | inr second ↦
                let old = index.named first.place one first.value in
                let next = index.named second.place other second.value in
                index.rise first.place second.place one other known later (shifted_order slots rank i j one other first second less) first.value second.value (but one old.0 known old.1 p) (but other next.0 later next.1 q)
          ]
        ];
    named = λ i held h.
        elim (shifted slots rank i slot held within h) [
          | inl first ↦ (name, moved held first.1)
          | inr first ↦ let old = index.named first.place held first.value in (old.0, record { place = old.1.place; value = old.1.value })
        ];
    all = λ held known h.
        elim (cases_order slot held) [
          | inl e ↦ (rank, rw (← e) (insert_at slots rank slot within))
          | inr apart ↦
              let i = index.all held known (record { place = h.place; value = h.value; other = λ e. (elim apart [ inl less ↦ omega (arith, e, less) | inr more ↦ omega (arith, e, more) ]) }) in
              kept slots rank i.0 slot held within i.1
        ];
  }
    where
      moved : (held : ℕ) → slot ≡ held → Has entries held name
      moved held e = rw (← e) value

      behind : (j one other : ℕ) (known later : List ℕ) → rank < j → slot ≡ one → Shifted slots rank j other → Has entries one known → Has entries other later → precedes known later ≡ true
      behind j one other known later more e second p q =
          let old = index.named second.place other second.value in
          let has = but other old.0 later old.1 q in
          let same : known ≡ name = one_name entries places one known name placed p (moved one e) in
          let up = second.above more in
          let no = split.behind second.place other later (omega (arith, up, more)) second.value has in
          let apart : later ≢ name = λ is. unused other (rw is at has) in
          rw same (precedes-total later name no apart)

      before : (i one other : ℕ) (known later : List ℕ) → i < rank → slot ≡ other → Shifted slots rank i one → Has entries one known → Has entries other later → precedes known later ≡ true
      before i one other known later less e first p q =
          let old = index.named first.place one first.value in
          let same : later ≡ name = one_name entries places other later name placed q (moved other e) in
          let is = first.below less in
          rw same (split.before first.place one known (omega (arith, is, less)) first.value (but one old.0 known old.1 p))

  -- the slot that is taken from its name's rank
  pub index-remove : IsNameIndex (Has entries) slots → slice_get slots rank ≡ Some slot → IsNameIndex (HasBut entries slot) (remove slots rank)
  index-remove index here = record {
    rise = λ i j one other known later less h g p q.
        let first = drawn slots rank i one h in
        let second = drawn slots rank j other g in
        index.rise first.place second.place one other known later (order i j first.place second.place less first.below first.from second.below second.from) first.value second.value (record { place = p.place; value = p.value }) (record { place = q.place; value = q.value });
    named = λ i held h.
        let first = drawn slots rank i held h in
        let old = index.named first.place held first.value in
        (old.0, record { place = old.1.place; value = old.1.value; other = λ e. first.other (listed_once (Has entries) slots index first.place rank held first.value (rw e at here)) });
    all = λ held known h.
        let i = index.all held known (record { place = h.place; value = h.value }) in
        left_in slots rank i.0 held (λ e. h.other (one_element slots rank slot held here (rw e at i.1))) i.1;
  }
    where
      order : (i j one other : ℕ) → i < j → (i < rank → one ≡ i) → (rank ≤ i → one ≡ i + 1) → (j < rank → other ≡ j) → (rank ≤ j → other ≡ j + 1) → one < other
      order i j one other less a b c d =
          elim (cases_lt i rank) [
            | inl below ↦ elim (cases_lt j rank) [
              | inl under ↦ let p = a below in let q = c under in omega (arith, p, q, less)
              | inr over ↦ let p = a below in let q = d over in omega (arith, p, q, less)
            ]
            | inr above ↦ elim (cases_lt j rank) [
              | inl under ↦ absurd (omega (arith, above, under, less))
              | inr over ↦ let p = b above in let q = d over in omega (arith, p, q, less)
            ]
          ]

-- what `rank` promises
abbrev pub RanksBy : List Entry → List ℕ → List ℕ → List ℕ → ℕ → Type 0
RanksBy entries places slots name rank =
    IsPartitionedBy (λ slot. precedes (indexed_name entries places slot) name) slots →
    IsPartitionPoint (λ slot. precedes (indexed_name entries places slot) name ≡ true) (λ slot. precedes (indexed_name entries places slot) name ≡ false) slots rank

pub ranks_by : (entries : List Entry) (places slots listed name known : List ℕ) (rank : ℕ) → listed ≡ slots → known ≡ name → RanksBy entries places listed known rank → RanksBy entries places slots name rank
ranks_by entries places slots listed name known rank e f ranks = rw (← e, ← f) ranks

module _ (entries : List Entry) (places : List ℕ) (placed : ArePlaced entries places (length entries)) where
  -- the rank splits the names of an index of all values
  pub splits_all : (slots : List ℕ) → IsNameIndex (Has entries) slots → (name : List ℕ) (rank : ℕ) → RanksBy entries places slots name rank → Splits (Has entries) slots name rank
  splits_all slots index name rank ranks =
      let within = λ (slot : ℕ) (known : List ℕ) (has : Has entries slot known). has in
      splits entries places placed (Has entries) within slots index name rank (ranks (partitioned entries places placed (Has entries) within slots index name))

  -- and of all but one
  pub splits_but : (slot : ℕ) (slots : List ℕ) → IsNameIndex (HasBut entries slot) slots → (name : List ℕ) (rank : ℕ) → RanksBy entries places slots name rank → Splits (HasBut entries slot) slots name rank
  splits_but slot slots index name rank ranks =
      let within : (held : ℕ) (known : List ℕ) → HasBut entries slot held known → Has entries held known = λ held known has. record { place = has.place; value = has.value } in
      splits entries places placed (HasBut entries slot) within slots index name rank (ranks (partitioned entries places placed (HasBut entries slot) within slots index name))

  module _ (slot : ℕ) (name : List ℕ) (value : Has entries slot name) (slots : List ℕ) (rank : ℕ) where
    pub listed-insert : rank ≤ length slots → IsNameIndex (HasBut entries slot) slots → ((held : ℕ) → HasBut entries slot held name → ⊥) → RanksBy entries places slots name rank → IsNameIndex (Has entries) (insert slots rank slot)
    listed-insert within index unused ranks =
        index-insert entries places placed slot name value slots rank within index (splits_but slot slots index name rank ranks) unused

    pub stands_at : IsNameIndex (Has entries) slots → RanksBy entries places slots name rank → slice_get slots rank ≡ Some slot
    stands_at index ranks = at_rank (Has entries) slots index name rank (splits_all slots index name rank ranks) slot value

    pub listed-remove : IsNameIndex (Has entries) slots → RanksBy entries places slots name rank → IsNameIndex (HasBut entries slot) (remove slots rank)
    listed-remove index ranks = index-remove entries places placed slot name value slots rank index (stands_at index ranks)
