-- For callers: what `new_passes` has, and what follows of a history from a part of it.
use Rattle.std.proofs.Common.{◌≡◌, ℕ, zero, suc, ◌+◌, List, [], ◌∷◌, ◌++◌, map, length, refl, subst, All}
use Rattle.std.specs.List.{AllByRecursion, range_with_len}
use Rattle.std.proofs.lemmas.List.Elements.{All-from_recursion}
use Rattle.std.proofs.lemmas.List.FromFn.{length-map-range_with_len}
use Rattle.mv_desk.specs.declared.history.Call.{Call}
use Rattle.mv_desk.specs.declared.facts.DeskFacts.{DeskFacts}
use Rattle.mv_desk.specs.History.{StartsWith, Leads, IsLegal}
use Rattle.mv_desk.specs.Passes.{IsPassOf, new_pass, new_passes}

module _ {S : Type 0} (E R : Type 0) (desk : DeskFacts S) where
  made_from : (a n : ℕ) → AllByRecursion (IsPassOf {S = S} {E = E} {R = R} desk) (map (new_pass desk) (range_with_len a n))
  made_from a zero = tt
  made_from a (suc n) = ((refl, refl), made_from (a + 1) n)

  pub new_passes_own : All (IsPassOf {S = S} {E = E} {R = R} desk) (new_passes desk)
  new_passes_own = All-from_recursion (IsPassOf {S = S} {E = E} {R = R} desk) (new_passes desk) (made_from 0 desk.callers)

  pub length-new_passes : length (new_passes {S = S} {E = E} {R = R} desk) ≡ desk.callers
  length-new_passes = length-map-range_with_len (new_pass {S = S} {E = E} {R = R} desk) 0 desk.callers

module _ {S E R : Type 0} where
  -- a history leads on from where its beginning leads
  leads_front : (step : S → E → R → S → Type 0) (s : S) (seen rest : List (Call E R)) (t : S) → Leads step s (seen ++ rest) t → (m : S) × Leads step s seen m × Leads step m rest t
  leads_front step s [] rest t h = (s, refl, h)
  leads_front step s (c ∷ cs) rest t h = let l = leads_front step h.0 cs rest t h.2 in (l.0, (h.0, h.1, l.1), l.2)

  -- what begins a legal history is legal
  pub legal_front : (step : S → E → R → S → Type 0) (s : S) (log seen : List (Call E R)) → StartsWith log seen → IsLegal step s log → IsLegal step s seen
  legal_front step s log seen front legal =
      let l = leads_front step s seen front.0 legal.0 (subst (λ (l : List (Call E R)). Leads step s l legal.0) front.1 legal.1) in (l.0, l.1)
