-- The bytes of a patch are its spelling.
use Rattle.std.specs.Prelude.{ℕ, zero, suc, ◌≡◌, ◌≢◌, ◌^◌, ◌<◌, ◌≤◌, ◌==◌, ◌&&◌, ◌||◌, Bool as Truth, true, false, not, List, [], ◌∷◌, ◌++◌, length, IsTrue, MatchOption, Option, Some, None, is_some, nat_le, nat_lt, nat_eq, negsuc, ⊤, if◌then◌else◌}
use Rattle.std.specs.List.{flat_map, list_all, list_any, AllPairs, AllByRecursion}
use Rattle.std.specs.Option.{option_map, is_none}
use Rattle.std.specs.Ordering.{nat_cmp, int_eq, is_lt}
use Rattle.std.specs.Cmp.Lexicographic.{slice_cmp}
use Rattle.std.specs.Str.{bytes_eq}
use Rattle.std.specs.Int.{w8, w16, w32, is_in_range}
use Rattle.std.specs.declared.cmp.Ordering.{Ordering}
use Rattle.std.specs.declared.cmp.Ordering.TheVariants.{Less, Equal, Greater}
use Rattle.std.proofs.Common.{refl, sym, ap, subst, ◌∙◌, arith, inl, inr}
use Rattle.std.proofs.lemmas.Bool.{and_parts, and_from, and_right, cases_Bool, or_cases, eqb-true, eq-eqb, ne_eqb, leb-true, le-leb, ltb-true, lt-ltb, not-true, not_from_false, false_from_ne_true}
use Rattle.std.proofs.lemmas.Bool.Decides.{Decides-eqb, Decides-int_eq}
use Rattle.std.proofs.lemmas.List.{append-nil, nil_from_length}
use Rattle.std.proofs.lemmas.List.Elements.{All-from_recursion, recursion_from_All}
use Rattle.std.proofs.lemmas.Slice.Eq.{bytes_eq-Decides}
use Rattle.aw_lists.specs.Coord.{AreSlots}
use Rattle.aw_cell.specs.declared.cell.Cell.{Cell}
use Rattle.aw_cell.specs.declared.cell.Cell.TheVariants.{Na, Num, Int, Text, Bool, Slot}
use Rattle.aw_cell.specs.Text.{is_text, is_text_byte}
use Rattle.aw_dim.specs.DimensionState.{Entry, IsDimension, IsValueName}
use Rattle.aw_dim.specs.DimensionState as dimension
use Rattle.aw_schema.specs.Checking.{first_repeated}
use Rattle.aw_var.specs.CellMap.{by_slots}
use Rattle.aw_body.specs.declared.patch.BodyPatch.{BodyPatch}
use Rattle.aw_body.specs.declared.patch.BodyPatch.TheVariants.{Values, Slots, Cells}
use Rattle.aw_body.specs.Fitting.{is_recorded, rise, rise_from}
use Rattle.aw_codec.specs.Formats.{Format, ended, ◌>>=◌, number, bytes_of, many, IsWhole}
use Rattle.aw_codec.specs.RecordFormat.{long, last_of, least_slot, nothing, key, keyed_cell, cell, cells, value, values, other_slot, slots, behind_letter, patch}
use Rattle.aw_codec.specs.Spellings as spelling
use Rattle.aw_codec.specs.Spellings.{key_slots}
use Rattle.aw_codec.specs.Records.{are_recordable, IsSpelled, IsKeyedCell, IsPatch}
use Rattle.aw_codec.proofs.Parts.{Reads, parts, joined, ended_is, ended_whole, byte_is, byte_whole, short_is, short_whole, long_is, long_whole, bytes_are, bytes_whole, range_is, range_whole, least_is, least_whole, count_is, count_whole}
use Rattle.aw_codec.proofs.Many.{together, AreFitting, many_are, many_whole, each_fits, fit_each, fit_so, fit_both, last_is}
use Rattle.aw_codec.proofs.KeyOrder.{MayFollow, above, may_follow}
use Rattle.aw_codec.proofs.Distinct.{IsNew, pairs_differ, are_new, few}
use Rattle.aw_codec.proofs.CellForms.{cell_is, cell_whole}

-- ---- slots of a valueset

abbrev no_part : {X : Type 0} (P : X → X → Type 0) → AllPairs P []
no_part P i j d lt within = absurd (omega arith)

abbrev itself : ℕ → ℕ
itself n = n

-- a slot that is none of these
abbrev IsOther : List ℕ → ℕ → Type 0
IsOther before n = IsNew itself nat_eq Decides-eqb before n × (n < 2 ^ 16)

other_is : (before bytes : List ℕ) (n : ℕ) → Reads (other_slot before) bytes n → (bytes ≡ spelling.short n) × IsOther before n
unfolding other_slot
other_is before bytes n reads =
    let (same, other, small) = short_is (λ slot. not (list_any (λ one. nat_eq one slot) before)) bytes n reads in
    (same, (not-true (list_any (λ one. nat_eq one n) before) other, small))

other_whole : (before : List ℕ) (n : ℕ) → IsOther before n → IsWhole (other_slot before) (spelling.short n) n
unfolding other_slot
other_whole before n (new, small) = short_whole (λ slot. not (list_any (λ one. nat_eq one slot) before)) n small (not_from_false (list_any (λ one. nat_eq one n) before) new)

none_repeated : (before ns : List ℕ) → AreFitting IsOther before ns → first_repeated before ns ≡ None
none_repeated before [] fit = refl
none_repeated before (n ∷ ns) ((new, small), rest) = rw new (none_repeated (before ++ n ∷ []) ns rest)

others_fit : (before ns : List ℕ) → first_repeated before ns ≡ None → AllByRecursion (λ n. n < 2 ^ 16) ns → AreFitting IsOther before ns
others_fit before [] none small = tt
others_fit before (n ∷ ns) none (first, rest) =
    elim (cases_Bool (list_any (λ one. nat_eq one n) before)) [
      | inl again ↦ let hit : Some n ≡ None = sym (rw again refl) ∙ none in absurd cc
      | inr new ↦ ((new, first), others_fit (before ++ n ∷ []) ns (rw new at none) rest)
    ]

is_none_from : (o : Option ℕ) → o ≡ None → is_none o ≡ true
is_none_from o none = ap is_none none

none_from : (o : Option ℕ) → is_none o ≡ true → o ≡ None
none_from None is = refl
none_from (Some n) is = absurd cc

at_most_slots : (ns : List ℕ) → AreFitting IsOther [] ns → length ns ≤ 65536
at_most_slots ns fit =
    few itself ns 65536
    (pairs_differ itself nat_eq Decides-eqb [] ns (no_part (λ one other. one ≢ other)) (fit_so IsOther (IsNew itself nat_eq Decides-eqb) (λ before n is. is.0) [] ns fit))
    (each_fits (λ n. n < 65536) [] ns (fit_so IsOther (λ _ n. n < 65536) (λ before n is. is.1) [] ns fit))

slots_are : (bytes : List ℕ) (p : BodyPatch) → Reads slots bytes p → (83 ∷ bytes ≡ spelling.patch p) × IsPatch p
unfolding slots
slots_are bytes p reads =
    let a = parts long (λ count. many other_slot count [] >>= λ all. ended (Slots all)) bytes p reads in
    let (count, _, _) = count_is 0 a.front a.v a.first in
    let b = parts (many other_slot a.v []) (λ all. ended (Slots all)) a.back p a.second in
    let found = many_are other_slot spelling.short IsOther other_is a.v [] b.front b.v b.first in
    let (is, none) = ended_is (Slots b.v) p b.back b.second.whole in
    let is-2 : p ≡ Slots found.xs = is ∙ ap Slots found.is in
    let rest : a.back ≡ spelling.shorts found.xs = together b.same found.same none ∙ append-nil (spelling.shorts found.xs) in
    let here : bytes ≡ spelling.long (length found.xs) ++ spelling.shorts found.xs = together a.same (count ∙ ap spelling.long (sym found.size)) rest in
    let small = All-from_recursion (λ n. n < 65536) found.xs (each_fits (λ n. n < 65536) [] found.xs (fit_so IsOther (λ _ n. n < 65536) (λ before n fits. fits.1) [] found.xs found.fit)) in
    rw is-2 (ap (λ (b : List ℕ). 83 ∷ b) here, (is_none_from (first_repeated [] found.xs) (none_repeated [] found.xs found.fit), small))

slots_whole : (ns : List ℕ) → IsPatch (Slots ns) → IsWhole slots (spelling.long (length ns) ++ spelling.shorts ns) (Slots ns)
unfolding slots
slots_whole ns (distinct, small) =
    let fit = others_fit [] ns (none_from (first_repeated [] ns) distinct) (recursion_from_All (λ n. n < 65536) ns small) in
    let most = at_most_slots ns fit in
    let from_slots = joined (many other_slot (length ns) []) (λ all. ended (Slots all)) (spelling.shorts ns) [] ns (Slots ns) (many_whole other_slot spelling.short IsOther other_whole [] ns fit) (ended_whole (Slots ns)) in
    rw append-nil at (joined long (λ count. many other_slot count [] >>= λ all. ended (Slots all)) (spelling.long (length ns)) (spelling.shorts ns ++ []) (length ns) (Slots ns) (count_whole 0 (length ns) (omega arith) (omega arith)) from_slots)

-- ---- values of a dimension

abbrev slot_in : Entry → ℕ
slot_in entry = entry.0

abbrev name_in : Entry → List ℕ
name_in entry = entry.1

-- a value with a slot and a name that none of these has
pub record IsValue (next : ℕ) (before : List Entry) (entry : Entry) : Type 0 where
  pub below : entry.0 < next
  pub small : entry.0 < 2 ^ 16
  pub slot : IsNew slot_in nat_eq Decides-eqb before entry
  pub text : IsTrue (is_text entry.1)
  pub some : 1 ≤ length entry.1
  pub name : IsNew name_in bytes_eq bytes_eq-Decides before entry

abbrev slot_test : ℕ → List Entry → ℕ → Truth
slot_test next before slot = nat_lt slot next && not (list_any (λ entry. nat_eq entry.0 slot) before)

abbrev name_test : List Entry → List ℕ → Truth
name_test before name = is_text name && not (list_any (λ entry. bytes_eq entry.1 name) before)

abbrev name_behind : List Entry → ℕ → ℕ → Format Entry
name_behind before slot size = bytes_of size (name_test before) >>= λ name. ended (slot, name)

abbrev size_behind : List Entry → ℕ → Format Entry
size_behind before slot = number w8 (is_in_range 1 64) >>= name_behind before slot

pub value_is : (next : ℕ) (before : List Entry) (bytes : List ℕ) (entry : Entry) → Reads (value next before) bytes entry → (bytes ≡ spelling.value entry) × IsValue next before entry
unfolding value
value_is next before bytes entry reads =
    let a = parts (number w16 (slot_test next before)) (size_behind before) bytes entry reads in
    let (slot, passes, small) = short_is (slot_test next before) a.front a.v a.first in
    let b = parts (number w8 (is_in_range 1 64)) (name_behind before a.v) a.back entry a.second in
    let (size, some, most) = range_is 1 64 b.front b.v b.first in
    let c = parts (bytes_of b.v (name_test before)) (λ name. ended (a.v, name)) b.back entry b.second in
    let (same, many, named) = bytes_are b.v (name_test before) c.front c.v c.first in
    let (is, none) = ended_is (a.v, c.v) entry c.back c.second.whole in
    let lower = and_parts (nat_lt a.v next) (not (list_any (λ other. nat_eq other.0 a.v) before)) passes in
    let new = and_parts (is_text c.v) (not (list_any (λ other. bytes_eq other.1 c.v) before)) named in
    let from_name : b.back ≡ c.v = together c.same same none ∙ append-nil c.v in
    let from_size : a.back ≡ length c.v ∷ c.v = together b.same (size ∙ ap (λ (n : ℕ). n ∷ []) (sym many)) from_name in
    let here : bytes ≡ spelling.value (a.v, c.v) = together a.same slot from_size in
    let fits : IsValue next before (a.v, c.v) = record {
      below = ltb-true a.v next lower.0;
      small = small;
      slot = not-true (list_any (λ other. nat_eq other.0 a.v) before) lower.1;
      text = new.0;
      some = omega (arith, many);
      name = not-true (list_any (λ other. bytes_eq other.1 c.v) before) new.1;
    } in
    rw is (here, fits)

text_most : (found : List ℕ) → IsTrue (is_text found) → length found ≤ 64
text_most found passes = leb-true (length found) 64 (and_parts (nat_le (length found) 64) (list_all is_text_byte found) passes).0

value_whole : (next : ℕ) (before : List Entry) (entry : Entry) → IsValue next before entry → IsWhole (value next before) (spelling.value entry) entry
unfolding value
value_whole next before entry fits =
    let lower = and_from (nat_lt entry.0 next) (not (list_any (λ other. nat_eq other.0 entry.0) before)) (lt-ltb entry.0 next fits.below) (not_from_false (list_any (λ other. nat_eq other.0 entry.0) before) fits.slot) in
    let new = and_from (is_text entry.1) (not (list_any (λ other. bytes_eq other.1 entry.1) before)) fits.text (not_from_false (list_any (λ other. bytes_eq other.1 entry.1) before) fits.name) in
    let from_name = joined (bytes_of (length entry.1) (name_test before)) (λ name. ended (entry.0, name)) entry.1 [] entry.1 entry (bytes_whole (name_test before) entry.1 new) (ended_whole entry) in
    let from_size = joined (number w8 (is_in_range 1 64)) (name_behind before entry.0) (length entry.1 ∷ []) (entry.1 ++ []) (length entry.1) entry (range_whole 1 64 (length entry.1) fits.some (text_most entry.1 fits.text)) from_name in
    rw append-nil at (joined (number w16 (slot_test next before)) (size_behind before) (spelling.short entry.0) (length entry.1 ∷ entry.1 ++ []) entry.0 entry (short_whole (slot_test next before) entry.0 fits.small lower) from_size)

not_empty : (name : List ℕ) → 1 ≤ length name → name ≢ []
not_empty [] some e = omega arith
not_empty (b ∷ name) some e = cc

has_length : (name : List ℕ) → name ≢ [] → 1 ≤ length name
has_length [] some = absurd (some refl)
has_length (b ∷ name) some = omega arith

pub dimension_of : (next : ℕ) (entries : List Entry) → next ≤ 65536 → AreFitting (IsValue next) [] entries → IsDimension (record { entries = entries; next = next })
dimension_of next entries most fit = record {
  slots_differ = pairs_differ slot_in nat_eq Decides-eqb [] entries (no_part (λ one other. one.0 ≢ other.0)) (fit_so (IsValue next) (IsNew slot_in nat_eq Decides-eqb) (λ before entry is. is.slot) [] entries fit);
  names_differ = pairs_differ name_in bytes_eq bytes_eq-Decides [] entries (no_part (λ one other. one.1 ≢ other.1)) (fit_so (IsValue next) (IsNew name_in bytes_eq bytes_eq-Decides) (λ before entry is. is.name) [] entries fit);
  slots_below = All-from_recursion (λ entry. entry.0 < next) entries (each_fits (λ entry. entry.0 < next) [] entries (fit_so (IsValue next) (λ _ entry. entry.0 < next) (λ before entry is. is.below) [] entries fit));
  names_are_texts = All-from_recursion (λ entry. IsValueName entry.1) entries (each_fits (λ entry. IsValueName entry.1) [] entries (fit_so (IsValue next) (λ _ entry. IsValueName entry.1) (λ before entry is. (is.text, not_empty entry.1 is.some)) [] entries fit));
  next_most = most;
}

abbrev AreBoth : ℕ → List Entry → Entry → Type 0
AreBoth next before entry = ((entry.0 < next) × IsValueName entry.1) × (IsNew slot_in nat_eq Decides-eqb before entry × IsNew name_in bytes_eq bytes_eq-Decides before entry)

values_fit : (values : dimension.DimensionState) → IsDimension values → AreFitting (IsValue values.next) [] values.entries
values_fit values is =
    let entries = values.entries in
    let next = values.next in
    let below = recursion_from_All (λ entry. entry.0 < next) entries is.slots_below in
    let names = recursion_from_All (λ entry. IsValueName entry.1) entries is.names_are_texts in
    let each = fit_both (λ _ entry. entry.0 < next) (λ _ entry. IsValueName entry.1) [] entries (fit_each (λ entry. entry.0 < next) [] entries below) (fit_each (λ entry. IsValueName entry.1) [] entries names) in
    let new = fit_both (IsNew slot_in nat_eq Decides-eqb) (IsNew name_in bytes_eq bytes_eq-Decides) [] entries (are_new slot_in nat_eq Decides-eqb [] entries is.slots_differ) (are_new name_in bytes_eq bytes_eq-Decides [] entries is.names_differ) in
    let both = fit_both (λ _ entry. (entry.0 < next) × IsValueName entry.1) (λ before entry. IsNew slot_in nat_eq Decides-eqb before entry × IsNew name_in bytes_eq bytes_eq-Decides before entry) [] entries each new in
    fit_so (AreBoth next) (IsValue next)
    (λ before entry parts. record {
      below = parts.0.0;
      small = omega (arith, parts.0.0, is.next_most);
      slot = parts.1.0;
      text = parts.0.1.0;
      some = has_length entry.1 parts.0.1.1;
      name = parts.1.1;
    })
    [] entries both

abbrev entries_behind : ℕ → ℕ → Format BodyPatch
entries_behind next count = many (value next) count [] >>= λ entries. ended (Values (record { entries = entries; next = next }))

abbrev count_behind : ℕ → Format BodyPatch
count_behind next = long >>= entries_behind next

values_are : (bytes : List ℕ) (p : BodyPatch) → Reads values bytes p → (76 ∷ bytes ≡ spelling.patch p) × IsPatch p
unfolding values
values_are bytes p reads =
    let a = parts (number w32 (is_in_range 0 65536)) count_behind bytes p reads in
    let (next, within, _) = long_is (is_in_range 0 65536) a.front a.v a.first in
    let most = leb-true a.v 65536 (and_parts (nat_le 0 a.v) (nat_le a.v 65536) within).1 in
    let b = parts long (entries_behind a.v) a.back p a.second in
    let (count, _, _) = count_is 0 b.front b.v b.first in
    let c = parts (many (value a.v) b.v []) (λ entries. ended (Values (record { entries = entries; next = a.v }))) b.back p b.second in
    let found = many_are (value a.v) spelling.value (IsValue a.v) (value_is a.v) b.v [] c.front c.v c.first in
    let (is, none) = ended_is (Values (record { entries = c.v; next = a.v })) p c.back c.second.whole in
    let is-2 : p ≡ Values (record { entries = found.xs; next = a.v }) = is ∙ ap (λ (entries : List Entry). Values (record { entries = entries; next = a.v })) found.is in
    let from_entries : b.back ≡ flat_map spelling.value found.xs = together c.same found.same none ∙ append-nil (flat_map spelling.value found.xs) in
    let from_count : a.back ≡ spelling.long (length found.xs) ++ flat_map spelling.value found.xs = together b.same (count ∙ ap spelling.long (sym found.size)) from_entries in
    let here : bytes ≡ spelling.long a.v ++ spelling.long (length found.xs) ++ flat_map spelling.value found.xs = together a.same next from_count in
    rw is-2 (ap (λ (b : List ℕ). 76 ∷ b) here, dimension_of a.v found.xs most found.fit)

values_whole : (all : dimension.DimensionState) → IsDimension all → IsWhole values (spelling.long all.next ++ spelling.long (length all.entries) ++ flat_map spelling.value all.entries) (Values all)
unfolding values
values_whole all is =
    let p = Values all in
    let fit = values_fit all is in
    let few_entries : length all.entries ≤ all.next = few slot_in all.entries all.next is.slots_differ (recursion_from_All (λ entry. entry.0 < all.next) all.entries is.slots_below) in
    let most = is.next_most in
    let spelled = flat_map spelling.value all.entries in
    let from_entries = joined (many (value all.next) (length all.entries) []) (λ entries. ended (Values (record { entries = entries; next = all.next }))) spelled [] all.entries p (many_whole (value all.next) spelling.value (IsValue all.next) (value_whole all.next) [] all.entries fit) (ended_whole p) in
    let from_count = joined long (entries_behind all.next) (spelling.long (length all.entries)) (spelled ++ []) (length all.entries) p (count_whole 0 (length all.entries) (omega arith) (omega arith)) from_entries in
    rw append-nil at (joined (number w32 (is_in_range 0 65536)) count_behind (spelling.long all.next) (spelling.long (length all.entries) ++ spelled ++ []) all.next p
    (long_whole (is_in_range 0 65536) all.next (omega arith) (and_from (nat_le 0 all.next) (nat_le all.next 65536) (le-leb 0 all.next (omega arith)) (le-leb all.next 65536 most))) from_count)

-- ---- keys

abbrev slot_behind : ℕ → Option (List ℕ) → List ℕ → Format ℕ
slot_behind size previous before = number w16 (nat_le (least_slot size previous before))

abbrev IsKeySlot : ℕ → Option (List ℕ) → List ℕ → ℕ → Type 0
IsKeySlot size previous before n = MayFollow size previous before n × (n < 2 ^ 16)

key_slot_is : (size : ℕ) (previous : Option (List ℕ)) (before bytes : List ℕ) (n : ℕ) → Reads (slot_behind size previous before) bytes n → (bytes ≡ spelling.short n) × IsKeySlot size previous before n
key_slot_is size previous before bytes n reads = let is = least_is (least_slot size previous before) bytes n reads in (is.0, (is.1, is.2))

key_slot_whole : (size : ℕ) (previous : Option (List ℕ)) (before : List ℕ) (n : ℕ) → IsKeySlot size previous before n → IsWhole (slot_behind size previous before) (spelling.short n) n
key_slot_whole size previous before n (more, small) = least_whole (least_slot size previous before) n more small

never : (bytes n : List ℕ) → IsWhole nothing bytes n → ⊥
never bytes n ([], same, after) = after
never bytes n (x ∷ fields, same, (size, passes, after)) = cc

-- a key of so many slots, above the one before it where that has as many
pub record IsKey (size : ℕ) (previous : Option (List ℕ)) (at : List ℕ) : Type 0 where
  pub size_is : length at ≡ size
  pub slots : AreSlots at
  pub above : (p : List ℕ) → previous ≡ Some p → length p ≡ size → slice_cmp nat_cmp p at ≡ Less

above_some : (size : ℕ) (previous : Option (List ℕ)) (at p : List ℕ) → (size == 0 && is_some previous) ≡ false → length at ≡ size → AreFitting (MayFollow size previous) [] at
    → previous ≡ Some p → length p ≡ size → slice_cmp nat_cmp p at ≡ Less
above_some size previous at p free many fit is same =
    let fit-2 = subst (λ (o : Option (List ℕ)). AreFitting (MayFollow size o) [] at) is fit in
    let free-2 : (size == 0 && true) ≡ false = subst (λ (o : Option (List ℕ)). (size == 0 && is_some o) ≡ false) is free in
    above p [] at size (omega arith) (omega arith) (omega (arith, not_zero size free-2)) fit-2
  where
    not_zero : (n : ℕ) → (n == 0 && true) ≡ false → 1 ≤ n
    not_zero zero e = absurd cc
    not_zero (suc n) e = omega arith

key_is : (size : ℕ) (previous : Option (List ℕ)) (bytes at : List ℕ) → Reads (key size previous) bytes at → (bytes ≡ spelling.shorts at) × IsKey size previous at
unfolding key
key_is size previous bytes at reads =
    elim (cases_Bool (size == 0 && is_some previous)) [
      | inl stuck ↦
          let none = subst (λ (b : Truth). Reads (if b then nothing else many (slot_behind size previous) size []) bytes at) stuck reads in
          absurd (never bytes at none.whole)
      | inr free ↦
          let these = subst (λ (b : Truth). Reads (if b then nothing else many (slot_behind size previous) size []) bytes at) free reads in
          let found = many_are (slot_behind size previous) spelling.short (IsKeySlot size previous) (key_slot_is size previous) size [] bytes at these in
          let follow = fit_so (IsKeySlot size previous) (MayFollow size previous) (λ before n is. is.0) [] found.xs found.fit in
          let small = each_fits (λ n. n < 65536) [] found.xs (fit_so (IsKeySlot size previous) (λ _ n. n < 65536) (λ before n is. is.1) [] found.xs found.fit) in
          let is : IsKey size previous found.xs = record {
            size_is = found.size;
            slots = All-from_recursion (λ n. n < 65536) found.xs small;
            above = λ p is same. above_some size previous found.xs p free found.size follow is same;
          } in
          rw found.is (found.same, is)
    ]

-- a key above the one before it, which has as many slots
abbrev StandsAbove : ℕ → Option (List ℕ) → List ℕ → Type 0
StandsAbove size previous at = MatchOption previous ⊤ (λ p. (length p ≡ size) × (slice_cmp nat_cmp p at ≡ Less))

none_follow : (size : ℕ) (before ns : List ℕ) → AreFitting (MayFollow size None) before ns
none_follow size before [] = tt
none_follow size before (n ∷ ns) = (omega arith, none_follow size (before ++ n ∷ []) ns)

key_follows : (size : ℕ) (previous : Option (List ℕ)) (at : List ℕ) → length at ≡ size → StandsAbove size previous at → AreFitting (MayFollow size previous) [] at
key_follows size None at sized stands = none_follow size [] at
key_follows size (Some p) at sized (same, less) = may_follow p [] at size (omega arith) (omega arith) less

not_stuck : (size : ℕ) (previous : Option (List ℕ)) (at : List ℕ) → length at ≡ size → StandsAbove size previous at → (size == 0 && is_some previous) ≡ false
not_stuck size None at sized stands = and_right (size == 0) false refl
not_stuck zero (Some p) at sized (same, less) =
    let none-p : p ≡ [] = nil_from_length p same in
    let none-at : at ≡ [] = nil_from_length at sized in
    let equal : slice_cmp nat_cmp p at ≡ Equal = rw (none-p, none-at) refl in
    absurd cc
not_stuck (suc n) (Some p) at sized stands = rw (ne_eqb (suc n) 0 (λ e. omega arith)) refl

key_whole : (size : ℕ) (previous : Option (List ℕ)) (at : List ℕ) → length at ≡ size → AreSlots at → StandsAbove size previous at → IsWhole (key size previous) (spelling.shorts at) at
unfolding key
key_whole size previous at sized small stands =
    let follow = key_follows size previous at sized stands in
    let fit = fit_both (MayFollow size previous) (λ _ n. n < 2 ^ 16) [] at follow (fit_each (λ n. n < 2 ^ 16) [] at (recursion_from_All (λ n. n < 65536) at small)) in
    let whole = many_whole (slot_behind size previous) spelling.short (IsKeySlot size previous) (key_slot_whole size previous) [] at fit in
    let whole-2 = subst (λ (n : ℕ). IsWhole (many (slot_behind size previous) n []) (spelling.shorts at) at) sized whole in
    subst (λ (b : Truth). IsWhole (if b then nothing else many (slot_behind size previous) size []) (spelling.shorts at) at) (sym (not_stuck size previous at sized stands)) whole-2

-- ---- cells of a patch

abbrev KeyedCell : Type 0
KeyedCell = List ℕ × Cell

abbrev key_before : List KeyedCell → Option (List ℕ)
key_before before = option_map (λ change. change.0) (last_of before)

key_before-append : (before : List KeyedCell) (c : KeyedCell) → key_before (before ++ c ∷ []) ≡ Some c.0
key_before-append before c = ap (option_map (λ change. change.0)) (last_is before c)

-- what is read of a cell behind these
abbrev IsNext : ℕ → List KeyedCell → KeyedCell → Type 0
IsNext size before c = IsKey size (key_before before) c.0 × IsSpelled c.1

keyed_is : (size : ℕ) (before : List KeyedCell) (bytes : List ℕ) (c : KeyedCell) → Reads (keyed_cell size before) bytes c → (bytes ≡ spelling.keyed_cell c) × IsNext size before c
unfolding keyed_cell
keyed_is size before bytes c reads =
    let a = parts (key size (key_before before)) (λ at. cell >>= λ value. ended (at, value)) bytes c reads in
    let (at, is_key) = key_is size (key_before before) a.front a.v a.first in
    let b = parts cell (λ value. ended (a.v, value)) a.back c a.second in
    let (value, spelled) = cell_is b.front b.v b.first in
    let (is, none) = ended_is (a.v, b.v) c b.back b.second.whole in
    let rest : a.back ≡ spelling.cell b.v = together b.same value none ∙ append-nil (spelling.cell b.v) in
    let here : bytes ≡ spelling.keyed_cell (a.v, b.v) = together a.same at rest in
    rw is (here, (is_key, spelled))

-- what can be spelled behind these
abbrev CanStand : ℕ → List KeyedCell → KeyedCell → Type 0
CanStand size before c = (length c.0 ≡ size) × AreSlots c.0 × StandsAbove size (key_before before) c.0 × IsSpelled c.1

keyed_whole : (size : ℕ) (before : List KeyedCell) (c : KeyedCell) → CanStand size before c → IsWhole (keyed_cell size before) (spelling.keyed_cell c) c
unfolding keyed_cell
keyed_whole size before c (many, small, stands, spelled) =
    let from_cell = joined cell (λ value. ended (c.0, value)) (spelling.cell c.1) [] c.1 c (cell_whole c.1 spelled) (ended_whole c) in
    rw append-nil at (joined (key size (key_before before)) (λ at. cell >>= λ value. ended (at, value)) (spelling.shorts c.0) (spelling.cell c.1 ++ []) c.0 c (key_whole size (key_before before) c.0 many small stands) from_cell)

recorded : (v : Cell) → IsSpelled v → IsTrue (is_recorded v)
recorded Na is = refl
recorded (Num z) is = refl
recorded (Int z) (fits, apart) = not_from_false (int_eq z (negsuc 2147483647)) (false_from_ne_true (int_eq z (negsuc 2147483647)) (λ e. apart ((Decides-int_eq z (negsuc 2147483647)).0 e)))
recorded (Text t) is = refl
recorded (Bool b) is = refl
recorded (Slot n) is = refl

abbrev has_form : ℕ → KeyedCell → Truth
has_form size c = (length c.0 == size) && is_recorded c.1

forms : (size : ℕ) (before cs : List KeyedCell) → AreFitting (IsNext size) before cs → IsTrue (list_all (has_form size) cs)
forms size before [] fit = refl
forms size before (c ∷ cs) ((is_key, spelled), rest) =
    let first = and_from (length c.0 == size) (is_recorded c.1) (eq-eqb (length c.0) size is_key.size_is) (recorded c.1 spelled) in
    and_from (has_form size c) (list_all (has_form size) cs) first (forms size (before ++ c ∷ []) cs rest)

less_is : (p at : List ℕ) → slice_cmp nat_cmp p at ≡ Less → is_lt (by_slots p at) ≡ true
less_is p at less = ap is_lt less

is_less : (p at : List ℕ) → is_lt (by_slots p at) ≡ true → slice_cmp nat_cmp p at ≡ Less
is_less p at is = of (slice_cmp nat_cmp p at) refl is
  where
    of : (o : Ordering) → o ≡ slice_cmp nat_cmp p at → is_lt o ≡ true → slice_cmp nat_cmp p at ≡ Less
    of Less e is = sym e
    of Equal e is = absurd cc
    of Greater e is = absurd cc

rising : (size : ℕ) (before : List KeyedCell) (last : List ℕ) (cs : List KeyedCell) → key_before before ≡ Some last → length last ≡ size → AreFitting (IsNext size) before cs → IsTrue (rise_from last cs)
rising size before last [] is same fit = refl
rising size before last (c ∷ cs) is same ((is_key, spelled), rest) =
    and_from (is_lt (by_slots last c.0)) (rise_from c.0 cs) (less_is last c.0 (is_key.above last is same))
    (rising size (before ++ c ∷ []) c.0 cs (key_before-append before c) is_key.size_is rest)

each_keyed : (size : ℕ) → size ≤ 6 → (before cs : List KeyedCell) → AreFitting (IsNext size) before cs → AllByRecursion IsKeyedCell cs
each_keyed size most before [] fit = tt
each_keyed size most before (c ∷ cs) ((is_key, spelled), rest) =
    ((is_key.slots, omega (arith, is_key.size_is), spelled), each_keyed size most (before ++ c ∷ []) cs rest)

-- with a first one, the size is that of its key
recordable : (size : ℕ) (cs : List KeyedCell) → 1 ≤ length cs → AreFitting (IsNext size) [] cs → (key_slots cs ≡ size) × IsTrue (are_recordable cs)
recordable size [] some fit = absurd (omega arith)
recordable size (c ∷ cs) some ((is_key, spelled), rest) =
    let all = forms size [] (c ∷ cs) ((is_key, spelled), rest) in
    let all-2 = subst (λ (n : ℕ). IsTrue (list_all (has_form n) (c ∷ cs))) (sym is_key.size_is) all in
    let rises = rising size (c ∷ []) c.0 cs refl is_key.size_is rest in
    (is_key.size_is, and_from (list_all (has_form (length c.0)) (c ∷ cs)) (rise (c ∷ cs)) all-2 rises)

abbrev cells_behind : ℕ → ℕ → Format BodyPatch
cells_behind size count = many (keyed_cell size) count [] >>= λ changes. ended (Cells changes)

abbrev cell_count_behind : ℕ → Format BodyPatch
cell_count_behind size = number w32 (nat_le 1) >>= cells_behind size

cells_are : (bytes : List ℕ) (p : BodyPatch) → Reads cells bytes p → (77 ∷ bytes ≡ spelling.patch p) × IsPatch p
unfolding cells
cells_are bytes p reads =
    let a = parts (number w8 (is_in_range 0 6)) cell_count_behind bytes p reads in
    let (size, _, most) = range_is 0 6 a.front a.v a.first in
    let b = parts (number w32 (nat_le 1)) (cells_behind a.v) a.back p a.second in
    let (count, some, small) = count_is 1 b.front b.v b.first in
    let c = parts (many (keyed_cell a.v) b.v []) (λ changes. ended (Cells changes)) b.back p b.second in
    let found = many_are (keyed_cell a.v) spelling.keyed_cell (IsNext a.v) (keyed_is a.v) b.v [] c.front c.v c.first in
    let (is, none) = ended_is (Cells c.v) p c.back c.second.whole in
    let is-2 : p ≡ Cells found.xs = is ∙ ap Cells found.is in
    let (first, form) = recordable a.v found.xs (omega (arith, found.size)) found.fit in
    let from_cells : b.back ≡ flat_map spelling.keyed_cell found.xs = together c.same found.same none ∙ append-nil (flat_map spelling.keyed_cell found.xs) in
    let from_count : a.back ≡ spelling.long (length found.xs) ++ flat_map spelling.keyed_cell found.xs = together b.same (count ∙ ap spelling.long (sym found.size)) from_cells in
    let here : bytes ≡ key_slots found.xs ∷ spelling.long (length found.xs) ++ flat_map spelling.keyed_cell found.xs = together a.same (size ∙ ap (λ (n : ℕ). n ∷ []) (sym first)) from_count in
    let each = All-from_recursion IsKeyedCell found.xs (each_keyed a.v most [] found.xs found.fit) in
    rw is-2 (ap (λ (b : List ℕ). 77 ∷ b) here, (form, omega (arith, found.size), each))

-- cells that rise can stand one behind the other
can_stand : (size : ℕ) (before : List KeyedCell) (last : List ℕ) (cs : List KeyedCell) → key_before before ≡ Some last → length last ≡ size → IsTrue (rise_from last cs) → IsTrue (list_all (has_form size) cs) → AllByRecursion IsKeyedCell cs
    → AreFitting (CanStand size) before cs
can_stand size before last [] is same rises form each = tt
can_stand size before last (c ∷ cs) is same rises form ((small, most, spelled), rest) =
    let next = and_parts (is_lt (by_slots last c.0)) (rise_from c.0 cs) rises in
    let all = and_parts (has_form size c) (list_all (has_form size) cs) form in
    let many = eqb-true (length c.0) size (and_parts (length c.0 == size) (is_recorded c.1) all.0).0 in
    let stands : StandsAbove size (key_before before) c.0 = subst (λ (o : Option (List ℕ)). StandsAbove size o c.0) (sym is) (same, is_less last c.0 next.0) in
    ((many, small, stands, spelled), can_stand size (before ++ c ∷ []) c.0 cs (key_before-append before c) many next.1 all.1 rest)

all_stand : (cs : List KeyedCell) → IsTrue (are_recordable cs) → AllByRecursion IsKeyedCell cs → AreFitting (CanStand (key_slots cs)) [] cs
all_stand [] form each = tt
all_stand (c ∷ cs) form ((small, most, spelled), rest) =
    let parts = and_parts (list_all (has_form (length c.0)) (c ∷ cs)) (rise (c ∷ cs)) form in
    let all = and_parts (has_form (length c.0) c) (list_all (has_form (length c.0)) cs) parts.0 in
    ((refl, small, tt, spelled), can_stand (length c.0) (c ∷ []) c.0 cs refl refl parts.1 all.1 rest)

some_cell : (cs : List KeyedCell) → IsTrue (are_recordable cs) → 1 ≤ length cs
some_cell [] form = absurd cc
some_cell (c ∷ cs) form = omega arith

key_most : (cs : List KeyedCell) → AllByRecursion IsKeyedCell cs → key_slots cs ≤ 6
key_most [] each = omega arith
key_most (c ∷ cs) ((small, most, spelled), rest) = most

cells_whole : (cs : List KeyedCell) → IsPatch (Cells cs) → IsWhole cells (key_slots cs ∷ spelling.long (length cs) ++ flat_map spelling.keyed_cell cs) (Cells cs)
unfolding cells
cells_whole cs (form, small, keyed) =
    let p = Cells cs in
    let each = recursion_from_All IsKeyedCell cs keyed in
    let size = key_slots cs in
    let spelled = flat_map spelling.keyed_cell cs in
    let from_cells = joined (many (keyed_cell size) (length cs) []) (λ changes. ended (Cells changes)) spelled [] cs p (many_whole (keyed_cell size) spelling.keyed_cell (CanStand size) (keyed_whole size) [] cs (all_stand cs form each)) (ended_whole p) in
    let from_count = joined (number w32 (nat_le 1)) (cells_behind size) (spelling.long (length cs)) (spelled ++ []) (length cs) p (count_whole 1 (length cs) (some_cell cs form) small) from_cells in
    rw append-nil at (joined (number w8 (is_in_range 0 6)) cell_count_behind (size ∷ []) (spelling.long (length cs) ++ spelled ++ []) size p (range_whole 0 6 size (omega arith) (key_most cs each)) from_count)

-- ---- patches

abbrev is_letter : ℕ → Truth
is_letter byte = byte == 76 || byte == 77 || byte == 83

by_letter : (P : ℕ → Format BodyPatch → Type 0) → P 76 values → P 77 cells → P 83 slots → (letter : ℕ) → is_letter letter ≡ true → P letter (behind_letter letter)
by_letter P a b c letter is =
    elim (or_cases (letter == 76 || letter == 77) (letter == 83) is) [
      | inl first ↦
          elim (or_cases (letter == 76) (letter == 77) first) [
            | inl here ↦ subst (λ (n : ℕ). P n (behind_letter n)) (sym (eqb-true letter 76 here)) a
            | inr here ↦ subst (λ (n : ℕ). P n (behind_letter n)) (sym (eqb-true letter 77 here)) b
          ]
      | inr here ↦ subst (λ (n : ℕ). P n (behind_letter n)) (sym (eqb-true letter 83 here)) c
    ]

abbrev behind : ℕ → Format BodyPatch
behind letter = behind_letter letter >>= λ found. ended found

pub patch_is : (bytes : List ℕ) (p : BodyPatch) → Reads patch bytes p → (bytes ≡ spelling.patch p) × IsPatch p
unfolding patch
patch_is bytes p reads =
    let a = parts (number w8 is_letter) behind bytes p reads in
    let (letter, is) = byte_is is_letter a.front a.v a.first in
    let b = parts (behind_letter a.v) (λ found. ended found) a.back p a.second in
    let (same, none) = ended_is b.v p b.back b.second.whole in
    let (found, fits) =
    by_letter (λ n form. Reads form b.front b.v → (n ∷ b.front ≡ spelling.patch b.v) × IsPatch b.v)
    (values_are b.front b.v) (cells_are b.front b.v) (slots_are b.front b.v) a.v is b.first in
    let rest : a.back ≡ b.front = together b.same refl none ∙ append-nil b.front in
    rw same (together a.same letter rest ∙ found, fits)

with_letter : (letter : ℕ) (bytes : List ℕ) (p : BodyPatch) → is_letter letter ≡ true → IsWhole (behind_letter letter) bytes p → IsWhole patch (letter ∷ bytes) p
unfolding patch
with_letter letter bytes p is whole =
    rw append-nil at (joined (number w8 is_letter) behind (letter ∷ []) (bytes ++ []) letter p (byte_whole is_letter letter is) (joined (behind_letter letter) (λ found. ended found) bytes [] p p whole (ended_whole p)))

pub patch_whole : (p : BodyPatch) → IsPatch p → IsWhole patch (spelling.patch p) p
patch_whole (Values all) fits = with_letter 76 (spelling.long all.next ++ spelling.long (length all.entries) ++ flat_map spelling.value all.entries) (Values all) refl (values_whole all fits)
patch_whole (Slots ns) fits = with_letter 83 (spelling.long (length ns) ++ spelling.shorts ns) (Slots ns) refl (slots_whole ns fits)
patch_whole (Cells cs) fits = with_letter 77 (key_slots cs ∷ spelling.long (length cs) ++ flat_map spelling.keyed_cell cs) (Cells cs) refl (cells_whole cs fits)
