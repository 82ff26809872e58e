-- Where an assignment stores cells, and what refuses it.
use Rattle.std.proofs.Common.{◌≡◌, ◌≢◌, ◌∙◌, ℕ, List, [], ◌∷◌, ◌++◌, length, map, Result, Ok, Err, refl, sym, ap, subst}
use Rattle.std.specs.Prelude.{flat_map, All, IsOk}
use Rattle.std.proofs.lemmas.List.{length-map, map-append}
use Rattle.std.proofs.lemmas.List.Elements.{All-head, All-tail, All-nil, All-cons, All-append, All-map}
use Rattle.aw_cell.specs.declared.cell.Cell.{Cell}
use Rattle.dml_loop.specs.declared.fault.LoopFault.{LoopFault}
use Rattle.dml_loop.specs.Evaluation.{slots_at, entry_of, assigned}
use Rattle.dml_loop.specs.Laws.{AreApart, IsAssigned, IsFirstRefusal}
use Rattle.dml_loop.specs.Loops.{Place, places, all_of, on_ok, ok_map}
use Rattle.dml_loop.proofs.AllOf.{ok-same, err-same, err-ok, ok-err}
use Rattle.dml_loop.proofs.Products.{places-product}

abbrev Entry : Type 0
Entry = List ℕ × Cell

-- ---- the coordinates

keys-step : (place : Place) (cell : Result Cell LoopFault) (rest : Result (List Entry) LoopFault) (others : List (List ℕ)) (entries : List Entry) → ((some : List Entry) → rest ≡ Ok some → map (λ (entry : Entry). entry.0) some ≡ others) → on_ok (λ (entry : Entry). ok_map (λ (some : List Entry). entry ∷ some) rest) (ok_map (λ (c : Cell). (slots_at place, c)) cell) ≡ Ok entries → map (λ (entry : Entry). entry.0) entries ≡ slots_at place ∷ others
keys-step place (Ok cell) (Ok some) others entries known is =
    let same : (slots_at place, cell) ∷ some ≡ entries = ok-same ((slots_at place, cell) ∷ some) entries is in
    ap (λ (xs : List Entry). map (λ (entry : Entry). entry.0) xs) (sym same) ∙ ap (λ (keys : List (List ℕ)). slots_at place ∷ keys) (known some refl)
keys-step place (Ok cell) (Err why) others entries known is = absurd (err-ok why entries is)
keys-step place (Err why) rest others entries known is = absurd (err-ok why entries is)

keys-of : (value : Place → Result Cell LoopFault) (becomes : Cell → Result Cell LoopFault) (all : List Place) (entries : List Entry) → assigned value becomes all ≡ Ok entries → map (λ (entry : Entry). entry.0) entries ≡ map slots_at all
keys-of value becomes [] entries is = ap (λ (xs : List Entry). map (λ (entry : Entry). entry.0) xs) (sym (ok-same [] entries is))
keys-of value becomes (place ∷ all) entries is =
    keys-step place (on_ok becomes (value place)) (assigned value becomes all) (map slots_at all) entries (keys-of value becomes all) is

-- ---- apart

apart-append : {A : Type 0} (xs ys : List A) → AreApart xs → AreApart ys → All (λ x. All (λ y. x ≢ y) ys) xs → AreApart (xs ++ ys)
apart-append [] ys one other across = other
apart-append {A} (x ∷ xs) ys one other across = (
  All-append (λ (y : A). x ≢ y) xs ys one.0 (All-head (λ (z : A). All (λ (y : A). z ≢ y) ys) x xs across),
  apart-append xs ys one.1 other (All-tail (λ (z : A). All (λ (y : A). z ≢ y) ys) x xs across),
)

apart-behind : (slot : ℕ) (keys : List (List ℕ)) → AreApart keys → AreApart (map (λ (key : List ℕ). slot ∷ key) keys)
apart-behind slot [] apart = tt
apart-behind slot (key ∷ keys) apart = (
  All-map (λ (other : List ℕ). slot ∷ key ≢ other) (λ (other : List ℕ). slot ∷ other) keys (λ k d less e. apart.0 k d less (rest-same slot _ _ e)),
  apart-behind slot keys apart.1,
)
  where
    rest-same : (slot : ℕ) (one other : List ℕ) → slot ∷ one ≡ slot ∷ other → one ≡ other
    rest-same slot one other e = cc

-- the coordinates with these slots in front
abbrev joined : List (List ℕ) → List ℕ → List (List ℕ)
joined keys slots = flat_map (λ slot. map (λ (key : List ℕ). slot ∷ key) keys) slots

not-first : (slot : ℕ) (key : List ℕ) (keys : List (List ℕ)) (slots : List ℕ) → All (λ (other : ℕ). slot ≢ other) slots → All (λ (other : List ℕ). slot ∷ key ≢ other) (joined keys slots)
not-first slot key keys [] differ = All-nil (λ (other : List ℕ). slot ∷ key ≢ other)
not-first slot key keys (next ∷ slots) differ =
    let here : slot ≢ next = All-head (λ (other : ℕ). slot ≢ other) next slots differ in
    All-append (λ (other : List ℕ). slot ∷ key ≢ other) (map (λ (other : List ℕ). next ∷ other) keys) (joined keys slots)
    (All-map (λ (other : List ℕ). slot ∷ key ≢ other) (λ (other : List ℕ). next ∷ other) keys (λ k d less e. here (first-same slot next key _ e)))
    (not-first slot key keys slots (All-tail (λ (other : ℕ). slot ≢ other) next slots differ))
  where
    first-same : (one other : ℕ) (keys more : List ℕ) → one ∷ keys ≡ other ∷ more → one ≡ other
    first-same one other keys more e = cc

joined-apart : (keys : List (List ℕ)) (slots : List ℕ) → AreApart keys → AreApart slots → AreApart (joined keys slots)
joined-apart keys [] apart once = tt
joined-apart keys (slot ∷ slots) apart once =
    apart-append (map (λ (key : List ℕ). slot ∷ key) keys) (joined keys slots) (apart-behind slot keys apart) (joined-apart keys slots apart once.1)
    (All-map (λ (one : List ℕ). All (λ (other : List ℕ). one ≢ other) (joined keys slots)) (λ (key : List ℕ). slot ∷ key) keys (λ k d less. not-first slot _ keys slots once.0))

keys-behind : (dimension slot : ℕ) (rest : List Place) → map slots_at (map (λ (place : Place). (dimension, slot) ∷ place) rest) ≡ map (λ (key : List ℕ). slot ∷ key) (map slots_at rest)
keys-behind dimension slot [] = refl
keys-behind dimension slot (place ∷ rest) = ap (λ (keys : List (List ℕ)). (slot ∷ slots_at place) ∷ keys) (keys-behind dimension slot rest)

keys-joined : (dimension : ℕ) (rest : List Place) (slots : List ℕ) → map slots_at (flat_map (λ slot. map (λ (place : Place). (dimension, slot) ∷ place) rest) slots) ≡ joined (map slots_at rest) slots
keys-joined dimension rest [] = refl
keys-joined dimension rest (slot ∷ slots) =
    map-append slots_at (map (λ (place : Place). (dimension, slot) ∷ place) rest) (flat_map (λ slot. map (λ (place : Place). (dimension, slot) ∷ place) rest) slots)
    ∙ ap (λ (keys : List (List ℕ)). keys ++ map slots_at (flat_map (λ slot. map (λ (place : Place). (dimension, slot) ∷ place) rest) slots)) (keys-behind dimension slot rest)
    ∙ ap (λ (keys : List (List ℕ)). map (λ (key : List ℕ). slot ∷ key) (map slots_at rest) ++ keys) (keys-joined dimension rest slots)

keys-apart : (lists : List (ℕ × List ℕ)) → All (λ (list : ℕ × List ℕ). AreApart list.1) lists → AreApart (map slots_at (places lists))
keys-apart [] once = (All-nil (λ (key : List ℕ). [] ≢ key), tt)
keys-apart (list ∷ lists) once =
    subst (λ (keys : List (List ℕ)). AreApart keys) (sym (keys-joined list.0 (places lists) list.1))
    (joined-apart (map slots_at (places lists)) list.1 (keys-apart lists (All-tail (λ (other : ℕ × List ℕ). AreApart other.1) list lists once)) (All-head (λ (other : ℕ × List ℕ). AreApart other.1) list lists once))

pub is-assigned : (value : Place → Result Cell LoopFault) (becomes : Cell → Result Cell LoopFault) (lists : List (ℕ × List ℕ)) (entries : List Entry) → assigned value becomes (places lists) ≡ Ok entries → IsAssigned lists entries
is-assigned value becomes lists entries is =
    let keys : map (λ (entry : Entry). entry.0) entries ≡ map slots_at (places lists) = keys-of value becomes (places lists) entries is in
    record {
      at_places = keys;
      count = sym (length-map entries (λ (entry : Entry). entry.0)) ∙ ap (λ (xs : List (List ℕ)). length xs) keys ∙ length-map (places lists) slots_at ∙ places-product lists;
      once = λ once. subst (λ (all : List (List ℕ)). AreApart all) (sym keys) (keys-apart lists once);
    }

-- ---- the first refusal

abbrev Gives : Type 0
Gives = Place → Result Entry LoopFault

refused-step : (entry : Gives) (place : Place) (all : List Place) (why : LoopFault) (here : Result Entry LoopFault) (rest : Result (List Entry) LoopFault) → entry place ≡ here → ((rest ≡ Err why) → IsFirstRefusal entry all why) → on_ok (λ (one : Entry). ok_map (λ (some : List Entry). one ∷ some) rest) here ≡ Err why → IsFirstRefusal entry (place ∷ all) why
refused-step entry place all why (Err other) rest e later is =
    record { before = []; place = place; after = all; is = refl; fine = All-nil (λ (at : Place). IsOk (entry at)); refused = e ∙ ap (λ (fault : LoopFault). Err fault) (err-same other why is) }
refused-step entry place all why (Ok one) (Ok some) e later is = absurd (ok-err (one ∷ some) why is)
refused-step entry place all why (Ok one) (Err other) e later is =
    let first : IsFirstRefusal entry all why = later is in
    record {
      before = place ∷ first.before;
      place = first.place;
      after = first.after;
      is = ap (λ (xs : List Place). place ∷ xs) first.is;
      fine = All-cons (λ (at : Place). IsOk (entry at)) place first.before (subst (λ (r : Result Entry LoopFault). IsOk r) (sym e) refl) first.fine;
      refused = first.refused;
    }

refused-at : (entry : Gives) (all : List Place) (why : LoopFault) → all_of entry all ≡ Err why → IsFirstRefusal entry all why
refused-at entry [] why is = absurd (ok-err [] why is)
refused-at entry (place ∷ all) why is = refused-step entry place all why (entry place) (all_of entry all) refl (refused-at entry all why) is

pub first-refusal : (value : Place → Result Cell LoopFault) (becomes : Cell → Result Cell LoopFault) (lists : List (ℕ × List ℕ)) (why : LoopFault) → assigned value becomes (places lists) ≡ Err why → IsFirstRefusal (entry_of value becomes) (places lists) why
first-refusal value becomes lists why is = refused-at (entry_of value becomes) (places lists) why is
