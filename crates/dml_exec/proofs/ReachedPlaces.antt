-- What a survey keeps tells with which lists of kinds each place is reached.
use Rattle.std.proofs.Common.{◌≡◌, ◌⊎◌, ◌∙◌, ℕ, suc, zero, ◌+◌, ◌<◌, ◌≤◌, Bool as Truth, true, false, ◌&&◌, eqb, cond, List, [], ◌∷◌, length, Some, None, Ok, refl, sym, ap, subst, inl, inr, ⊎_elim, arith}
use Rattle.std.specs.List.{slice_get}
use Rattle.std.proofs.lemmas.Bool.{cases_eq}
use Rattle.std.proofs.lemmas.Bool.Decides.{eqb_tells}
use Rattle.std.proofs.lemmas.Option.{slice_get_within}
use Rattle.aw_cell.specs.declared.cell.Kind.{Kind}
use Rattle.dml_exec.specs.declared.arrivals.Arrival.{Arrival}
use Rattle.dml_exec.specs.declared.arrivals.Arrival.TheVariants.{Never, With, Torn}
use Rattle.dml_exec.specs.declared.flow.Way.{Way}
use Rattle.dml_exec.specs.declared.flow.Way.TheVariants.{Next, Leap, Fork}
use Rattle.dml_exec.specs.declared.op.Op.{Op}
use Rattle.dml_exec.specs.declared.survey.Survey.{Survey}
use Rattle.dml_exec.specs.Verified.{Rules, onward, GoesTo, Leads, LeadTo, Reaches, IsStuck, IsTorn, IsBad, IsFirstFault}
use Rattle.dml_exec.specs.inside.Arrivals.{Arrived, Arrives, TakesOut, Spreads, IsOnly, HasTwo, Tells, TellsEnd, SurveysBy, Surveys, Found, AreUnreached}

-- ---- one place

tells-more : (Has : List Kind → Type 0) (stack : List Kind) (before after : Arrival) → Tells Has before → Arrived before stack after → Tells (λ (s : List Kind). Has s ⊎ (s ≡ stack)) after
tells-more Has stack Never after t e = subst (Tells (λ (s : List Kind). Has s ⊎ (s ≡ stack))) (sym e) (record { has = inr refl; only = λ other h. ⊎_elim (λ was. absurd (t other was)) (λ same. sym same) h })
tells-more Has stack (With first) after t a =
    ⊎_elim
    (λ same. subst (Tells (λ (s : List Kind). Has s ⊎ (s ≡ stack))) (sym same.1) (record { has = inl t.has; only = λ other h. ⊎_elim (λ was. t.only other was) (λ is. same.0 ∙ sym is) h }))
    (λ differ. subst (Tells (λ (s : List Kind). Has s ⊎ (s ≡ stack))) (sym differ.1) (record { one = first; other = stack; has_one = inl t.has; has_other = inr refl; differ = differ.0 }))
    a
tells-more Has stack Torn after t e = subst (Tells (λ (s : List Kind). Has s ⊎ (s ≡ stack))) (sym e) (record { one = t.one; other = t.other; has_one = inl t.has_one; has_other = inl t.has_other; differ = t.differ })

tells-same : (Has Now : List Kind → Type 0) (arrival : Arrival) → ((s : List Kind) → Has s → Now s) → ((s : List Kind) → Now s → Has s) → Tells Has arrival → Tells Now arrival
tells-same Has Now Never to from t = λ stack h. t stack (from stack h)
tells-same Has Now (With first) to from t = record { has = to first t.has; only = λ other h. t.only other (from other h) }
tells-same Has Now Torn to from t = record { one = t.one; other = t.other; has_one = to t.one t.has_one; has_other = to t.other t.has_other; differ = t.differ }

-- ---- the end

end-same : (Has Now : List Kind → Type 0) (ended : Truth) → ((s : List Kind) → Has s → Now s) → ((s : List Kind) → Now s → Has s) → TellsEnd Has ended → TellsEnd Now ended
end-same Has Now true to from t = λ stack h. t stack (from stack h)
end-same Has Now false to from t = (t.0, (to t.0 t.1), t.2)

end-more : (Has : List Kind → Type 0) (stack : List Kind) (ended : Truth) → TellsEnd Has ended → TellsEnd (λ (s : List Kind). Has s ⊎ (s ≡ stack)) (ended && eqb (length stack) 1)
end-more Has stack true t =
    let Now : List Kind → Type 0 = λ s. Has s ⊎ (s ≡ stack) in
    ⊎_elim
    (λ one. subst (TellsEnd Now) (sym one.0) (λ other h. ⊎_elim (λ was. t other was) (λ same. ap length same ∙ one.1) h))
    (λ many. subst (TellsEnd Now) (sym many.0) (stack, inr refl, many.1))
    (eqb_tells (length stack) 1)
end-more Has stack false t = (t.0, inl t.1, t.2)

-- ---- all places

pub surveys-same : (Has Now : ℕ → List Kind → Type 0) (from count : ℕ) (survey : Survey) → ((place : ℕ) (s : List Kind) → Has place s → Now place s) → ((place : ℕ) (s : List Kind) → Now place s → Has place s) → SurveysBy Has from count survey → SurveysBy Now from count survey
surveys-same Has Now from count survey to back s = record {
  len = s.len;
  told = λ place arrival past here. tells-same (Has place) (Now place) arrival (to place) (back place) (s.told place arrival past here);
  ended = end-same (Has count) (Now count) survey.ended (to count) (back count) s.ended;
  deepest = λ place stack h. s.deepest place stack (back place stack h);
}

same_Some : {A : Type 0} (a b : A) → Some a ≡ Some b → a ≡ b
same_Some a b e = cc

none-some : {A : Type 0} (a : A) → None ≡ Some a → ⊥
none-some a e = cc

-- an arrival is kept of each place
kept : (arrivals : List Arrival) (place : ℕ) → place < length arrivals → (arrival : Arrival) × (slice_get arrivals place ≡ Some arrival)
kept [] place h = absurd (omega arith)
kept (a ∷ arrivals) zero h = (a, refl)
kept (a ∷ arrivals) (suc place) h = kept arrivals place (omega arith)

module _ (Has : ℕ → List Kind → Type 0) (from count : ℕ) (old new : Survey) (place : ℕ) (stack : List Kind) where
  abbrev Now : ℕ → List Kind → Type 0
  Now p s = Has p s ⊎ ((p ≡ place) × (s ≡ stack))

  there : SurveysBy Has from count old → Arrives old new place stack → (p : ℕ) (arrival : Arrival) → from ≤ p → slice_get new.arrivals.items p ≡ Some arrival → p ≡ place → Tells (Now p) arrival
  there s a p arrival past here e =
      let within : p < length new.arrivals.items = slice_get_within new.arrivals.items p arrival here in
      let at_place : place < length old.arrivals.items = omega (arith, a.len, e) in
      let was = kept old.arrivals.items place at_place in
      let is = a.here was.0 was.1 in
      let same : is.0 ≡ arrival = same_Some is.0 arrival (sym is.1 ∙ ap (slice_get new.arrivals.items) (sym e) ∙ here) in
      let told : Tells (Has p) was.0 = s.told p was.0 past (ap (slice_get old.arrivals.items) e ∙ was.1) in
      let more : Tells (λ (t : List Kind). Has p t ⊎ (t ≡ stack)) is.0 = tells-more (Has p) stack was.0 is.0 told is.2 in
      subst (Tells (Now p)) same (tells-same (λ (t : List Kind). Has p t ⊎ (t ≡ stack)) (Now p) is.0 (λ t h. ⊎_elim (λ was. inl was) (λ is. inr (e, is)) h) (λ t h. ⊎_elim (λ was. inl was) (λ is. inr is.1) h) more)

  elsewhere : SurveysBy Has from count old → Arrives old new place stack → (p : ℕ) (arrival : Arrival) → from ≤ p → slice_get new.arrivals.items p ≡ Some arrival → (p ≡ place → ⊥) → Tells (Now p) arrival
  elsewhere s a p arrival past here ne =
      tells-same (Has p) (Now p) arrival (λ t h. inl h) (λ t h. ⊎_elim (λ was. was) (λ is. absurd (ne is.0)) h) (s.told p arrival past (sym (a.others p ne) ∙ here))

  at_end : SurveysBy Has from count old → Arrives old new place stack → TellsEnd (Now count) new.ended
  at_end s a =
      ⊎_elim
      (λ is. let e : new.ended ≡ (old.ended && eqb (length stack) 1) = a.ended ∙ ap (λ (b : Truth). cond b (old.ended && eqb (length stack) 1) old.ended) is.0 in
      let more : TellsEnd (λ (t : List Kind). Has count t ⊎ (t ≡ stack)) new.ended = subst (TellsEnd (λ (t : List Kind). Has count t ⊎ (t ≡ stack))) (sym e) (end-more (Has count) stack old.ended s.ended) in
      let at : count ≡ place = sym (is.1 ∙ s.len) in
      end-same (λ (t : List Kind). Has count t ⊎ (t ≡ stack)) (Now count) new.ended (λ t h. ⊎_elim (λ was. inl was) (λ is. inr (at, is)) h) (λ t h. ⊎_elim (λ was. inl was) (λ is. inr is.1) h) more)
      (λ no_end. let e : new.ended ≡ old.ended = a.ended ∙ ap (λ (b : Truth). cond b (old.ended && eqb (length stack) 1) old.ended) no_end.0 in
      end-same (Has count) (Now count) new.ended (λ t h. inl h) (λ t h. ⊎_elim (λ was. was) (λ is. absurd (no_end.1 (sym is.0 ∙ sym s.len))) h) (subst (TellsEnd (Has count)) (sym e) s.ended))
      (eqb_tells place (length old.arrivals.items))

  pub surveys-arrive : SurveysBy Has from count old → Arrives old new place stack → SurveysBy Now from count new
  surveys-arrive s a = record {
    len = a.len ∙ s.len;
    told = λ p arrival past here. ⊎_elim (there s a p arrival past here) (elsewhere s a p arrival past here) (cases_eq p place);
    ended = at_end s a;
    deepest = λ p t h. ⊎_elim (λ was. let least : length t ≤ old.deepest = s.deepest p t was in omega (arith, a.deepest)) (λ is. let same : length t ≡ length stack = ap length is.1 in omega (arith, a.deepest)) h;
  }

-- ---- all places to which a way goes

abbrev Then : (ℕ → List Kind → Type 0) → ℕ → Way → List Kind → ℕ → List Kind → Type 0
Then Has at way stack place s = Has place s ⊎ (GoesTo at way place × (s ≡ stack))

pub surveys-spread : (Has : ℕ → List Kind → Type 0) (from count : ℕ) (old new : Survey) (at : ℕ) (way : Way) (stack : List Kind) → SurveysBy Has from count old → Spreads old new at way stack → SurveysBy (Then Has at way stack) from count new
surveys-spread Has from count old new at Next stack s a = surveys-arrive Has from count old new (at + 1) stack s a
surveys-spread Has from count old new at (Leap to) stack s a = surveys-arrive Has from count old new to stack s a
surveys-spread Has from count old new at (Fork at_no at_na) stack s a =
    let One : ℕ → List Kind → Type 0 = λ p t. Has p t ⊎ ((p ≡ at_no) × (t ≡ stack)) in
    let Two : ℕ → List Kind → Type 0 = λ p t. One p t ⊎ ((p ≡ at_na) × (t ≡ stack)) in
    let Three : ℕ → List Kind → Type 0 = λ p t. Two p t ⊎ ((p ≡ at + 1) × (t ≡ stack)) in
    let one : SurveysBy One from count a.0 = surveys-arrive Has from count old a.0 at_no stack s a.2 in
    let two : SurveysBy Two from count a.1 = surveys-arrive One from count a.0 a.1 at_na stack one a.3 in
    let three : SurveysBy Three from count new = surveys-arrive Two from count a.1 new (at + 1) stack two a.4 in
    surveys-same Three (Then Has at (Fork at_no at_na) stack) from count new
    (λ p t h. ⊎_elim (λ h. ⊎_elim (λ h. ⊎_elim (λ was. inl was) (λ is. inr (inl is.0, is.1)) h) (λ is. inr (inr (inl is.0), is.1)) h) (λ is. inr (inr (inr is.0), is.1)) h)
    (λ p t h. ⊎_elim (λ was. inl (inl (inl was))) (λ is. ⊎_elim (λ no. inl (inl (inr (no, is.1)))) (λ more. ⊎_elim (λ na. inl (inr (na, is.1))) (λ yes. inr (yes, is.1)) more) is.0) h)
    three

-- ---- one op

-- at first the place 0 is reached, with no kinds
pub surveys-first : (r : Rules) (old new : Survey) → AreUnreached old.arrivals.items (length r.ops) → old.ended ≡ true → Arrives old new 0 [] → Surveys r 0 new
surveys-first r old new unreached ended a =
    let None_yet : ℕ → List Kind → Type 0 = λ p t. ⊥ in
    let s : SurveysBy None_yet 0 (length r.ops) old = record {
      len = unreached.0;
      told = λ p arrival past here. subst (Tells (None_yet p)) (sym (unreached.1 p arrival here)) (λ t h. h);
      ended = subst (TellsEnd (None_yet (length r.ops))) (sym ended) (λ t h. absurd h);
      deepest = λ p t h. absurd h;
    } in
    record {
      by = surveys-same (λ p t. ⊥ ⊎ ((p ≡ 0) × (t ≡ []))) (LeadTo r 0) 0 (length r.ops) new (λ p t h. ⊎_elim (λ never. absurd never) (λ is. is) h) (λ p t h. inr h) (surveys-arrive None_yet 0 (length r.ops) old new 0 [] s a);
      fine = λ before less. absurd (omega arith);
    }

surveys-taken : (Has : ℕ → List Kind → Type 0) (at count : ℕ) (old new : Survey) → SurveysBy Has at count old → TakesOut old new at → SurveysBy Has (suc at) count new
surveys-taken Has at count old new s t = record {
  len = t.len ∙ s.len;
  told = λ p arrival past here. s.told p arrival (omega arith) (sym (t.others p (λ e. absurd (omega arith))) ∙ here);
  ended = subst (TellsEnd (Has count)) (sym t.ended) s.ended;
  deepest = λ p stack h. let least : length stack ≤ old.deepest = s.deepest p stack h in omega (arith, t.deepest);
}

fine-more : (r : Rules) (at : ℕ) → ((before : ℕ) → before < at → IsBad r before → ⊥) → (IsBad r at → ⊥) → (before : ℕ) → before < suc at → IsBad r before → ⊥
fine-more r at fine good before less bad =
    ⊎_elim (λ e. good (subst (IsBad r) e bad)) (λ ne. fine before (omega arith) bad) (cases_eq before at)

module _ (r : Rules) (at : ℕ) (old taken : Survey) (s : Surveys r at old) (t : TakesOut old taken at) where
  told_here : (arrival : Arrival) → slice_get old.arrivals.items at ≡ Some arrival → Tells (Reaches r at) arrival
  told_here arrival here = s.by.told at arrival (omega arith) here

  -- an op that isn't reached
  pub never-visited : slice_get old.arrivals.items at ≡ Some Never → Surveys r (suc at) taken
  never-visited here =
      let none : (stack : List Kind) → Reaches r at stack → ⊥ = told_here Never here in
      record {
        by = surveys-same (LeadTo r at) (LeadTo r (suc at)) (suc at) (length r.ops) taken (λ p stack h. inl h) (λ p stack h. ⊎_elim (λ was. was) (λ on. absurd (none on.0 on.1)) h) (surveys-taken (LeadTo r at) at (length r.ops) old taken s.by t);
        fine = fine-more r at s.fine (λ bad. ⊎_elim (λ (stuck : IsStuck r at). none stuck.stack stuck.reached) (λ (torn : IsTorn r at). none torn.one torn.by_one) bad);
      }

  -- one that is reached with two lists
  pub torn-bad : at < length r.ops → slice_get old.arrivals.items at ≡ Some Torn → IsBad r at
  torn-bad within here =
      let two : HasTwo (Reaches r at) = told_here Torn here in
      inr (record { one = two.one; other = two.other; within = within; by_one = two.has_one; by_other = two.has_other; differ = two.differ })

  -- one that can't take its list
  pub stuck-bad : (op : Op) (stack : List Kind) → slice_get r.ops at ≡ Some op → slice_get old.arrivals.items at ≡ Some (With stack) → onward r at op stack ≡ None → IsBad r at
  stuck-bad op stack is here stuck =
      let only : IsOnly (Reaches r at) stack = told_here (With stack) here in
      inl (record { op = op; stack = stack; here = is; reached = only.has; stuck = stuck })

  module _ (op : Op) (stack after : List Kind) (way : Way) (new : Survey) (is : slice_get r.ops at ≡ Some op) (here : slice_get old.arrivals.items at ≡ Some (With stack)) (goes : onward r at op stack ≡ Some (way, after)) where
    only : IsOnly (Reaches r at) stack
    only = told_here (With stack) here

    to_lead : (p : ℕ) (s : List Kind) → Then (LeadTo r at) at way after p s → LeadTo r (suc at) p s
    to_lead p s h =
        ⊎_elim (λ was. inl was)
        (λ on. inr (stack, only.has, record { op = op; way = way; here = is; takes = goes ∙ ap (λ (k : List Kind). Some (way, k)) (sym on.1); there = on.0 })) h

    from_lead : (p : ℕ) (s : List Kind) → LeadTo r (suc at) p s → Then (LeadTo r at) at way after p s
    from_lead p s h =
        ⊎_elim (λ was. inl was)
        (λ on.
        let leads : Leads r at on.0 p s = on.2 in
        let same_op : op ≡ leads.op = same_Some op leads.op (sym is ∙ leads.here) in
        let same : (way, after) ≡ (leads.way, s) = same_Some (way, after) (leads.way, s) (sym goes ∙ ap (λ (o : Op). onward r at o stack) same_op ∙ ap (λ (k : List Kind). onward r at leads.op k) (only.only on.0 on.1) ∙ leads.takes) in
        inr (subst (λ (w : Way). GoesTo at w p) (sym (ap (λ (w : Way × List Kind). w.0) same)) leads.there, sym (ap (λ (w : Way × List Kind). w.1) same)))
        h

    good : IsBad r at → ⊥
    good bad =
        ⊎_elim
        (λ (stuck : IsStuck r at).
        let same_op : op ≡ stuck.op = same_Some op stuck.op (sym is ∙ stuck.here) in
        none-some (way, after) (sym stuck.stuck ∙ sym (ap (λ (k : List Kind). onward r at stuck.op k) (only.only stuck.stack stuck.reached)) ∙ sym (ap (λ (o : Op). onward r at o stack) same_op) ∙ goes))
        (λ (torn : IsTorn r at). torn.differ (sym (only.only torn.one torn.by_one) ∙ only.only torn.other torn.by_other))
        bad

    -- one that goes on
    pub spread-visited : Spreads taken new at way after → Surveys r (suc at) new
    spread-visited spreads = record {
      by = surveys-same (Then (LeadTo r at) at way after) (LeadTo r (suc at)) (suc at) (length r.ops) new to_lead from_lead (surveys-spread (LeadTo r at) (suc at) (length r.ops) taken new at way after (surveys-taken (LeadTo r at) at (length r.ops) old taken s.by t) spreads);
      fine = fine-more r at s.fine good;
    }

-- ---- the end

pub lead-up : (r : Rules) (to from place : ℕ) (stack : List Kind) → from ≤ to → LeadTo r from place stack → LeadTo r to place stack
lead-up r zero from place stack h led = let e : from ≡ 0 = omega arith in subst (λ (n : ℕ). LeadTo r n place stack) e led
lead-up r (suc to) from place stack h led =
    ⊎_elim (λ e. subst (λ (n : ℕ). LeadTo r n place stack) e led) (λ ne. inl (lead-up r to from place stack (omega arith) led)) (cases_eq from (suc to))

-- behind the last op nothing leads on
pub lead-all : (r : Rules) (from place : ℕ) (stack : List Kind) → LeadTo r from place stack → LeadTo r (length r.ops) place stack
lead-all r zero place stack led = lead-up r (length r.ops) 0 place stack (omega arith) led
lead-all r (suc at) place stack led =
    ⊎_elim (λ was. lead-all r at place stack was)
    (λ on. let leads : Leads r at on.0 place stack = on.2 in
    let within : at < length r.ops = slice_get_within r.ops at leads.op leads.here in
    lead-up r (length r.ops) (suc at) place stack (omega arith) (inr on))
    led

pub found-fault : (r : Rules) (survey : Survey) → Surveys r (length r.ops) survey → survey.ended ≡ false → IsFirstFault r (length r.ops)
found-fault r survey s ended =
    let many : TellsEnd (Reaches r (length r.ops)) false = subst (TellsEnd (Reaches r (length r.ops))) ended s.by.ended in
    record { first = s.fine; here = inr (record { end = refl; stack = many.0; reached = many.1; many = many.2 }) }

pub found-sound : (r : Rules) (survey : Survey) → Surveys r (length r.ops) survey → survey.ended ≡ true → Found r (Ok survey.deepest)
found-sound r survey s ended =
    let one : TellsEnd (Reaches r (length r.ops)) true = subst (TellsEnd (Reaches r (length r.ops))) ended s.by.ended in (
      record {
        ops = λ at bad. s.fine at (⊎_elim (λ (stuck : IsStuck r at). slice_get_within r.ops at stuck.op stuck.here) (λ (torn : IsTorn r at). torn.within) bad) bad;
        end = λ badly. badly.many (one badly.stack badly.reached);
      },
      λ at stack reached. s.by.deepest at stack (lead-all r at at stack reached),
    )
