-- What the four parts of an act come to.
use Rattle.std.proofs.Common.{◌≡◌, ℕ, List, [], ◌∷◌, ◌++◌, get_or, sym, refl, ap, ◌∙◌, subst, Some}
use Rattle.atomic_table.specs.Table.{Me}
use Rattle.mv_desk.specs.declared.history.Call.{Call}
use Rattle.mv_desk.specs.declared.view.Caller.{Caller}
use Rattle.mv_desk.specs.declared.view.View.{View}
use Rattle.mv_desk.specs.History.{calls_by, Grows, Leads, IsLegal, call_of}
use Rattle.mv_desk.specs.inside.Rule.{AreOf}
use Rattle.mv_desk.specs.inside.Seats.{first_caller, caller, IsReady}
use Rattle.mv_desk.specs.inside.Steps.{waiting, taking, served_as, served, Drawn, Holds}
use Rattle.mv_desk.proofs.Lists.{calls_snoc}
use Rattle.mv_desk.proofs.Steps.{leads_snoc}

module _ {S E R : Type 0} (go : S → E → R → S → Type 0) (o : S) (e : E) (r : R) (place : ℕ) (me0 me1 me2 me3 me4 : Me S (View S E R)) where
  abbrev Acted : Type 0
  Acted = IsReady me0 × (me0.0.opening ≡ Some o) × Drawn me0 place me1 × Holds go me1 place me2 × (me3.0 ≡ me2.0) × ((x : S) × (y : S) × (me2.1 ≡ (0, x) ∷ []) × (me3.1 ≡ (0, y) ∷ []) × go x e r y)
      × (me4 ≡ (served (call_of (caller me3.0).number e r) me3.0, []))

  ends : (h : Acted) → caller me4.0 ≡ record { number = (caller me0.0).number; seen = h.3.0 ++ call_of (caller me0.0).number e r ∷ []; mine = (caller me0.0).mine ++ call_of (caller me0.0).number e r ∷ [] }
  ends h =
      let log = h.3.0 in
      let drawn : me1.0 ≡ waiting h.2.0 me0.0 = ap (λ (m : Me S (View S E R)). m.0) h.2.1 in
      let turned : me2.0 ≡ taking log me1.0 = ap (λ (m : Me S (View S E R)). m.0) h.3.2 in
      let before : me3.0 ≡ taking log (waiting h.2.0 me0.0) = h.4 ∙ (turned ∙ ap (λ (v : View S E R). taking log v) drawn) in
      ap (λ (m : Me S (View S E R)). caller m.0) h.6 ∙ (ap (λ (v : View S E R). caller (served (call_of (caller v).number e r) v)) before
      ∙ ap (λ (cs : List (Caller E R)). first_caller (served_as log (call_of (first_caller cs).number e r) cs)) h.0.1)

  -- what the seat knew of the history when it took the turn
  had : (h : Acted) → AreOf h.3.0 (caller me0.0 ∷ [])
  had h =
      let one : me1.0.callers ≡ caller me0.0 ∷ [] = ap (λ (m : Me S (View S E R)). m.0.callers) h.2.1 ∙ h.0.1 in
      subst (λ (cs : List (Caller E R)). AreOf h.3.0 cs) one h.3.4

  pub grows : Acted → Grows (caller me0.0).seen (call_of (caller me0.0).number e r) (caller me4.0).seen
  grows h =
      let was = (had h).0.0 in
      (was.0, ap (λ (c : Caller E R). c.seen) (ends h) ∙ ap (λ (l : List (Call E R)). l ++ call_of (caller me0.0).number e r ∷ []) was.1)

  pub legal : Acted → IsLegal go o (caller me4.0).seen
  legal h =
      let log = h.3.0 in let x = h.3.1 in let w = h.5 in
      let held : x ≡ w.0 = ap (λ (l : List (ℕ × S)). (get_or l 0 (0, x)).1) (sym (ap (λ (m : Me S (View S E R)). m.1) h.3.2) ∙ w.2) in
      let opened : me1.0.opening ≡ Some o = ap (λ (m : Me S (View S E R)). m.0.opening) h.2.1 ∙ h.1 in
      subst (λ (c : Caller E R). IsLegal go o c.seen) (sym (ends h))
      (w.1, leads_snoc go o 0 o log w.0 w.1 (call_of (caller me0.0).number e r) (subst (λ (y : S). Leads go o log y) held (h.3.5 o opened)) w.4)

  pub own : Acted → calls_by (caller me4.0).number (caller me4.0).seen ≡ (caller me4.0).mine
  own h =
      subst (λ (c : Caller E R). calls_by c.number c.seen ≡ c.mine) (sym (ends h))
      (calls_snoc (caller me0.0).number h.3.0 (call_of (caller me0.0).number e r) refl ∙ ap (λ (l : List (Call E R)). l ++ call_of (caller me0.0).number e r ∷ []) (sym (had h).0.1))
