-- The value that has a name's slot has this name.
use Rattle.std.proofs.Common.{◌≡◌, ◌≢◌, ◌∙◌, ℕ, zero, suc, ◌==◌, ◌<◌, Bool, true, false, cond, List, [], ◌∷◌, length, slice_get, Option, Some, None, refl, sym, ap, subst, arith}
use Rattle.std.specs.Prelude.{AllPairs, find, get_or}
use Rattle.std.specs.Option.{option_map, option_and_then}
use Rattle.std.specs.Str.{bytes_eq}
use Rattle.std.specs.Prelude.{IfSome}
use Rattle.std.proofs.lemmas.Option.{slice_get_within, get_or_from_slice_get}
use Rattle.std.proofs.lemmas.Bool.Decides.{Decides-eqb}
use Rattle.std.proofs.lemmas.Slice.Eq.{bytes_eq-Decides}
use Rattle.aw_cell.specs.declared.cell.Cell.TheVariants.{Text}
use Rattle.aw_dim.specs.DimensionState.{Entry, DimensionState, IsDimension, slot_of, name_of}
use Rattle.aw_body.specs.declared.body.Body.{Body}
use Rattle.aw_body.specs.declared.body.Body.TheVariants.{Dim, Rel, Set, Var}
use Rattle.aw_body.specs.Bodies.{IsBody}
use Rattle.mv_view.specs.ViewState.{ObjectView, ViewState, AreSeen, IsSeen, object_of}
use Rattle.mv_view.specs.Rules.{values_of, values_in}
use Rattle.ses_value.specs.Seeing.{slot_in, name_in, text_or_na}

-- ---- in a list of entries

record Stands (entries : List Entry) (slot : ℕ) (name : List ℕ) : Type 0 where
  pub place : ℕ
  pub value : slice_get entries place ≡ Some (slot, name)

stands : (entries : List Entry) (slot : ℕ) (name : List ℕ) → option_map (λ (entry : Entry). entry.0) (find (λ (entry : Entry). bytes_eq entry.1 name) entries) ≡ Some slot → Stands entries slot name
stands [] slot name h = absurd cc
stands (entry ∷ entries) slot name h = by (bytes_eq entry.1 name) refl (stands entries slot name) h
  where
    by : (b : Bool) → bytes_eq entry.1 name ≡ b → (option_map (λ (e : Entry). e.0) (find (λ (e : Entry). bytes_eq e.1 name) entries) ≡ Some slot → Stands entries slot name) → option_map (λ (e : Entry). e.0) (cond b (Some entry) (find (λ (e : Entry). bytes_eq e.1 name) entries)) ≡ Some slot → Stands (entry ∷ entries) slot name
    by true e more g =
        let n : entry.1 ≡ name = (bytes_eq-Decides entry.1 name).0 e in
        let s : entry.0 ≡ slot = cc in
        let same : entry ≡ (slot, name) = λ i. (s i, n i) in
        record { place = zero; value = ap Some same }
    by false e more g = let rest = more g in record { place = suc rest.place; value = rest.value }

-- the entry at a place is the first one with its slot
named : (entries : List Entry) (slot : ℕ) (name : List ℕ) (place : ℕ) → AllPairs (λ (one other : Entry). one.0 ≢ other.0) entries → slice_get entries place ≡ Some (slot, name) → option_map (λ (entry : Entry). entry.1) (find (λ (entry : Entry). entry.0 == slot) entries) ≡ Some name
named [] slot name place apart is = absurd cc
named (entry ∷ entries) slot name zero apart is =
    let same : entry ≡ (slot, name) = cc in
    let here : (entry.0 == slot) ≡ true = (Decides-eqb entry.0 slot).1 (ap (λ (e : Entry). e.0) same) in
    ap (λ (b : Bool). option_map (λ (e : Entry). e.1) (cond b (Some entry) (find (λ (e : Entry). e.0 == slot) entries))) here ∙ ap (λ (e : Entry). Some e.1) same
named (entry ∷ entries) slot name (suc place) apart is =
    let within : place < length entries = slice_get_within entries place (slot, name) is in
    let other : get_or entries place entry ≡ (slot, name) = get_or_from_slice_get entries place (slot, name) entry is in
    let differ : entry.0 ≢ (get_or entries place entry).0 = apart zero (suc place) entry (omega arith) (omega (arith, within)) in
    by (entry.0 == slot) refl (λ same. differ (same ∙ sym (ap (λ (e : Entry). e.0) other)))
    (named entries slot name place (λ i j d less long. apart (suc i) (suc j) d (omega (arith, less)) (omega (arith, long))) is)
  where
    by : (b : Bool) → (entry.0 == slot) ≡ b → (entry.0 ≡ slot → ⊥) → option_map (λ (e : Entry). e.1) (find (λ (e : Entry). e.0 == slot) entries) ≡ Some name → option_map (λ (e : Entry). e.1) (cond (entry.0 == slot) (Some entry) (find (λ (e : Entry). e.0 == slot) entries)) ≡ Some name
    by true e differ later = absurd (differ ((Decides-eqb entry.0 slot).0 e))
    by false e differ later =
        ap (λ (b : Bool). option_map (λ (x : Entry). x.1) (cond b (Some entry) (find (λ (x : Entry). x.0 == slot) entries))) e
        ∙ later

slot_named : (values : DimensionState) (name : List ℕ) (slot : ℕ) → IsDimension values → slot_of values name ≡ Some slot → name_of values slot ≡ Some name
slot_named values name slot valid is =
    let here = stands values.entries slot name is in
    named values.entries slot name here.place valid.slots_differ here.value

-- ---- in a view

some-values : (one other : DimensionState) → ◌≡◌ {A = Option DimensionState} (Some one) (Some other) → one ≡ other
some-values one other e = cc

of_body : (body : Body) (values : DimensionState) → IsBody body → values_of (Some body) ≡ Some values → IsDimension values
of_body (Dim one) values valid is = subst IsDimension (some-values one values is) valid
of_body (Rel contents) values valid is = absurd cc
of_body (Set slots) values valid is = absurd cc
of_body (Var contents) values valid is = absurd cc

pub of_object : (found : Option ObjectView) (values : DimensionState) → IfSome found IsSeen → values_of (option_map (λ (one : ObjectView). one.private) found) ≡ Some values → IsDimension values
of_object None values seen is = absurd cc
of_object (Some found) values seen is = of_body found.private values seen.private.valid is

by_values : (found : Option DimensionState) (value : List ℕ) (slot : ℕ) → ((values : DimensionState) → found ≡ Some values → IsDimension values) → option_and_then (λ (values : DimensionState). slot_of values value) found ≡ Some slot → text_or_na (option_and_then (λ (values : DimensionState). name_of values slot) found) ≡ Text value
by_values None value slot valid is = absurd cc
by_values (Some values) value slot valid is = ap text_or_na (slot_named values value slot (valid values refl) is)

pub slots_have_names : (view : ViewState) → AreSeen view.objects → (dimension : ℕ) (value : List ℕ) (slot : ℕ) → slot_in view dimension value ≡ Some slot → name_in view dimension slot ≡ Text value
slots_have_names view seen dimension value slot is = by_values (values_in view dimension) value slot (λ values at. of_object (object_of view dimension) values (seen.each dimension) at) is
