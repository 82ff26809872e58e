-- What a survey begins with, and what follows from what it found.
use Rattle.std.proofs.Common.{◌≡◌, ◌∙◌, ℕ, zero, suc, ◌+◌, ◌<◌, ◌≤◌, List, [], ◌∷◌, ◌++◌, length, Some, None, Ok, refl, sym, ap, ⊎_elim, arith, add-one}
use Rattle.std.specs.List.{slice_get}
use Rattle.std.proofs.lemmas.Option.{slice_get_within}
use Rattle.dml_exec.specs.declared.arrivals.Arrival.{Arrival}
use Rattle.dml_exec.specs.declared.arrivals.Arrival.TheVariants.{Never}
use Rattle.dml_exec.specs.declared.code.Code.{Code}
use Rattle.dml_exec.specs.declared.kinds.Kinds.{Kinds}
use Rattle.dml_exec.specs.declared.op.Op.{Op}
use Rattle.dml_exec.specs.Free.{free_dimensions}
use Rattle.dml_exec.specs.CodeRuns.{Accepts, rules_for}
use Rattle.dml_exec.specs.Verified.{Rules, rules_of, IsStuck, IsTorn, EndsBadly, IsFirstFault}
use Rattle.dml_exec.specs.inside.Arrivals.{AreUnreached, Found}

none-some : {A : Type 0} (a : A) → None ≡ Some a → ⊥
none-some a e = cc

same_Some : {A : Type 0} (a b : A) → Some a ≡ Some b → a ≡ b
same_Some a b e = cc

-- ---- unreached

never-more : (arrivals : List Arrival) → ((place : ℕ) (arrival : Arrival) → slice_get arrivals place ≡ Some arrival → arrival ≡ Never) → (place : ℕ) (arrival : Arrival) → slice_get (arrivals ++ Never ∷ []) place ≡ Some arrival → arrival ≡ Never
never-more [] h zero arrival e = sym (same_Some Never arrival e)
never-more [] h (suc place) arrival e = absurd (none-some arrival e)
never-more (a ∷ arrivals) h zero arrival e = h 0 arrival e
never-more (a ∷ arrivals) h (suc place) arrival e = never-more arrivals (λ p. h (suc p)) place arrival e

length-push : {A : Type 0} (xs : List A) (x : A) → length (xs ++ x ∷ []) ≡ suc (length xs)
length-push [] x = refl
length-push (y ∷ xs) x = ap suc (length-push xs x)

pub unreached_none : (arrivals : List Arrival) → arrivals ≡ [] → AreUnreached arrivals 0
unreached_none arrivals e = (ap length e, λ place arrival here. absurd (none-some arrival (sym (ap (λ (xs : List Arrival). slice_get xs place) e) ∙ here)))

pub unreached_more : (arrivals : List Arrival) (count : ℕ) → AreUnreached arrivals count → AreUnreached (arrivals ++ Never ∷ []) (count + 1)
unreached_more arrivals count u = (length-push arrivals Never ∙ ap suc u.0 ∙ sym (add-one count), never-more arrivals u.1)

-- ---- what was found

bad-within : (r : Rules) (at : ℕ) → IsFirstFault r at → at ≤ length r.ops
bad-within r at fault =
    ⊎_elim
    (λ bad. ⊎_elim
    (λ (stuck : IsStuck r at). let less : at < length r.ops = slice_get_within r.ops at stuck.op stuck.here in omega arith)
    (λ (torn : IsTorn r at). let less : at < length r.ops = torn.within in omega arith) bad)
    (λ (ends : EndsBadly r at). let e : at ≡ length r.ops = ends.end in omega arith)
    fault.here

pub fault_within : (kinds : Kinds) (fixes : ℕ) (ops : List Op) (at : ℕ) → IsFirstFault (rules_of kinds fixes ops) at → at ≤ length ops
fault_within kinds fixes ops at fault = bad-within (rules_of kinds fixes ops) at fault

pub accepted_by : (kinds : Kinds) (code : Code) → Found (rules_for kinds code) (Ok code.deepest) → code.free ≡ free_dimensions code.ops → Accepts kinds code
accepted_by kinds code found free = record { sound = found.0; free = free; deepest = found.1 }
