-- What holds at each place of a loop.
use Rattle.std.proofs.Common.{◌≡◌, ℕ, suc, ◌≤◌, List, [], ◌∷◌, length, map, refl, ap, subst, arith, Ok, drop, sym}
use Rattle.std.specs.Prelude.{flat_map, All}
use Rattle.std.proofs.lemmas.List.Elements.{All-head, All-tail, All-nil, All-cons, All-append, All-map}
use Rattle.dml_exec.specs.declared.code.Code.{Code}
use Rattle.dml_exec.specs.Meaning.{CodeInputs}
use Rattle.dml_exec.specs.CodeRuns.{CanRun, Fits}
use Rattle.dml_loop.specs.Loops.{Place, places}
use Rattle.dml_loop.specs.Evaluation.{CanLoop, first_place, places_of, first_places}

pub each-later : (P Q : Place → Type 0) (dimension : ℕ) (rest : List Place) (slots : List ℕ) → ((slot : ℕ) (place : Place) → P place → Q ((dimension, slot) ∷ place)) → All P rest → All Q (flat_map (λ slot. map (λ (place : Place). (dimension, slot) ∷ place) rest) slots)
each-later P Q dimension rest [] step all = All-nil Q
each-later P Q dimension rest (slot ∷ slots) step all =
    let there : All Q (map (λ (place : Place). (dimension, slot) ∷ place) rest) = All-map Q (λ (place : Place). (dimension, slot) ∷ place) rest (λ k d less. step slot _ (all k d less)) in
    All-append Q (map (λ (place : Place). (dimension, slot) ∷ place) rest) (flat_map (λ slot. map (λ (place : Place). (dimension, slot) ∷ place) rest) slots) there (each-later P Q dimension rest slots step all)

-- each place has an entry for each list
pub place-lengths : (lists : List (ℕ × List ℕ)) → All (λ (place : Place). length place ≡ length lists) (places lists)
place-lengths [] = All-cons (λ (place : Place). length place ≡ 0) [] [] refl (All-nil (λ (place : Place). length place ≡ 0))
place-lengths (list ∷ lists) =
    each-later (λ (place : Place). length place ≡ length lists) (λ (place : Place). length place ≡ suc (length lists)) list.0 (places lists) list.1 (λ slot place e. ap suc e) (place-lengths lists)

pub few-slots : (lists : List (ℕ × List ℕ)) → length lists ≤ 6 → All (λ (place : Place). length place ≤ 6) (places lists)
few-slots lists few = λ k d less. let e = place-lengths lists k d less in omega (arith, e, few)

-- ---- what a run asks

pub next-runs : (code : Code) (read : Place → CodeInputs) (place : Place) (all : List Place) (may_read : ℕ → List ℕ → Type 0) (may_name : ℕ → ℕ → Type 0) → CanLoop code read (place ∷ all) may_read may_name → CanRun code (read place) may_read may_name
next-runs code read place all may_read may_name can = record { kinds = can.kinds; accepted = can.accepted; fits = All-head (λ (at : Place). Fits can.kinds code (read at)) place all can.fits; may_ask = can.may_ask }

pub others-loop : (code : Code) (read : Place → CodeInputs) (place : Place) (all : List Place) (may_read : ℕ → List ℕ → Type 0) (may_name : ℕ → ℕ → Type 0) → CanLoop code read (place ∷ all) may_read may_name → CanLoop code read all may_read may_name
others-loop code read place all may_read may_name can = record { kinds = can.kinds; accepted = can.accepted; fits = All-tail (λ (at : Place). Fits can.kinds code (read at)) place all can.fits; may_ask = can.may_ask }

-- the same where the places are known by an equation
pub runs-at : (code : Code) (read : Place → CodeInputs) (place : Place) (all rest : List Place) (may_read : ℕ → List ℕ → Type 0) (may_name : ℕ → ℕ → Type 0) → all ≡ place ∷ rest → CanLoop code read all may_read may_name → CanRun code (read place) may_read may_name
runs-at code read place all rest may_read may_name is can = next-runs code read place rest may_read may_name (subst (λ (xs : List Place). CanLoop code read xs may_read may_name) is can)

pub loops-on : (code : Code) (read : Place → CodeInputs) (place : Place) (all rest : List Place) (may_read : ℕ → List ℕ → Type 0) (may_name : ℕ → ℕ → Type 0) → all ≡ place ∷ rest → CanLoop code read all may_read may_name → CanLoop code read rest may_read may_name
loops-on code read place all rest may_read may_name is can = others-loop code read place rest may_read may_name (subst (λ (xs : List Place). CanLoop code read xs may_read may_name) is can)

-- at the first place
pub first-runs : (code : Code) (read : Place → CodeInputs) (lists : List (ℕ × List ℕ)) (place : Place) (may_read : ℕ → List ℕ → Type 0) (may_name : ℕ → ℕ → Type 0) → first_place lists ≡ Ok place → CanLoop code read (first_places lists) may_read may_name → CanRun code (read place) may_read may_name
first-runs code read lists place may_read may_name is can = runs-at code read place (first_places lists) [] may_read may_name (ap places_of is) can

pub loops-left : (code : Code) (read : Place → CodeInputs) (place : Place) (all rest : List Place) (may_read : ℕ → List ℕ → Type 0) (may_name : ℕ → ℕ → Type 0) → all ≡ place ∷ drop 1 all → rest ≡ drop 1 all → CanLoop code read all may_read may_name → CanLoop code read rest may_read may_name
loops-left code read place all rest may_read may_name first others can =
    subst (λ (xs : List Place). CanLoop code read xs may_read may_name) (sym others) (loops-on code read place all (drop 1 all) may_read may_name first can)
