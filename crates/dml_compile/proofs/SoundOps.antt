-- Ops that take one list of kinds to another, wherever they stand, and that such ops are accepted.
use Rattle.std.proofs.Common.{◌≡◌, ◌∙◌, ℕ, zero, suc, ◌+◌, ◌<◌, ◌≤◌, ◌&&◌, inl, inr, Bool as Truth, true, false, cond, List, [], ◌∷◌, ◌++◌, length, Some, None, is_some, refl, sym, ap, subst, arith, ⊎_elim, length-append}
use Rattle.std.specs.Prelude.{nat_le, slice_get}
use Rattle.std.proofs.lemmas.Bool.{true≢false, le-leb, lt-leb, leb-true, lt-ltb}
use Rattle.aw_cell.specs.declared.cell.Cell.TheVariants.{Na}
use Rattle.aw_cell.specs.declared.cell.Kind.{Kind}
use Rattle.aw_cell.specs.declared.cell.Kind.TheVariants as kind
use Rattle.aw_cell.specs.declared.cell.Kind.TheVariants.{Bool as BOOLEAN}
use Rattle.aw_page.specs.Fitting.{is_of_kind}
use Rattle.dml_exec.specs.declared.flow.Way.{Way}
use Rattle.dml_exec.specs.declared.flow.Way.TheVariants.{Next, Leap, Fork}
use Rattle.dml_exec.specs.declared.op.Op.{Op}
use Rattle.dml_exec.specs.declared.op.Op.TheVariants.{Push, Branch, Jump}
use Rattle.dml_exec.specs.Operators.{when}
use Rattle.dml_exec.specs.Verified.{Rules, Onward, kind_pushed, is_ahead, onward, GoesTo, LeadTo, IsStuck, IsTorn, EndsBadly, IsSound}
use Rattle.dml_compile.specs.inside.Emitted.{no_place, na_place, choice_ops}

-- an op at a place takes the kinds that a table has there, and goes on to later places, up to an end, with those that it
-- has there
pub record Step (r : Rules) (table : ℕ → List Kind) (end at : ℕ) (op : Op) : Type 0 where
  pub way : Way
  pub after : List Kind
  pub takes : onward r at op (table at) ≡ Some (way, after)
  pub there : (place : ℕ) → GoesTo at way place → (at < place) × (place ≤ end) × (table place ≡ after)

abbrev pub Steps : Rules → (ℕ → List Kind) → ℕ → ℕ → List Op → Type 0
Steps r table end at [] = Unit {0}
Steps r table end at (op ∷ ops) = Step r table end at op × Steps r table end (at + 1) ops

-- from a place on ops take one list of kinds to another behind the last
pub record Flows (r : Rules) (start : ℕ) (ops : List Op) (before after : List Kind) : Type 0 where
  pub table : ℕ → List Kind
  pub first : table start ≡ before
  pub last : table (start + length ops) ≡ after
  pub steps : Steps r table (start + length ops) start ops

-- NA is of each kind
na_pushed : (kind : Kind) (stack : List Kind) → kind_pushed stack (when (is_of_kind kind Na) kind) ≡ Some (Next, kind ∷ stack)
na_pushed kind.Num stack = refl
na_pushed kind.Int stack = refl
na_pushed kind.Text stack = refl
na_pushed kind.Bool stack = refl
na_pushed kind.Slot stack = refl

module _ (r : Rules) where
  -- ---- another table, and a later end

  step_kept : (one other : ℕ → List Kind) (end further at : ℕ) (op : Op) → end ≤ further → at ≤ end → ((p : ℕ) → at ≤ p → p ≤ end → one p ≡ other p) → Step r one end at op → Step r other further at op
  step_kept one other end further at op le here same s = record {
    way = s.way;
    after = s.after;
    takes = subst (λ (before : List Kind). onward r at op before ≡ Some (s.way, s.after)) (same at (omega arith) here) s.takes;
    there = λ place goes.
        let t = s.there place goes in
        let from : at ≤ place = omega (arith, t.0) in
        let to : place ≤ further = omega (arith, t.1, le) in
        (t.0, to, sym (same place from t.1) ∙ t.2);
  }

  pub steps_kept : (one other : ℕ → List Kind) (end further at : ℕ) (ops : List Op) → end ≤ further → at + length ops ≤ end → ((p : ℕ) → at ≤ p → p ≤ end → one p ≡ other p) → Steps r one end at ops → Steps r other further at ops
  steps_kept one other end further at [] le room same s = tt
  steps_kept one other end further at (op ∷ ops) le room same s =
      let here : at ≤ end = omega (arith, room) in
      let more : at + 1 + length ops ≤ end = omega (arith, room) in (
        step_kept one other end further at op le here same s.0,
        steps_kept one other end further (at + 1) ops le more (λ p from to. let earlier : at ≤ p = omega (arith, from) in same p earlier to) s.1,
      )

  pub steps_both : (table : ℕ → List Kind) (end at : ℕ) (xs ys : List Op) → Steps r table end at xs → Steps r table end (at + length xs) ys → Steps r table end at (xs ++ ys)
  steps_both table end at [] ys s t = let here : at + 0 ≡ at = omega arith in subst (λ (n : ℕ). Steps r table end n ys) here t
  steps_both table end at (x ∷ xs) ys s t =
      let here : at + suc (length xs) ≡ at + 1 + length xs = omega arith in
      (s.0, steps_both table end (at + 1) xs ys s.1 (subst (λ (n : ℕ). Steps r table end n ys) here t))

  -- ---- one op, and ops behind each other

  up_to : (place p : ℕ) (one other : List Kind) → p ≤ place → cond (nat_le p place) one other ≡ one
  up_to place p one other h = ap (λ (t : Truth). cond t one other) (le-leb p place h)

  behind : (place p : ℕ) (one other : List Kind) → place < p → cond (nat_le p place) one other ≡ other
  behind place p one other h = ap (λ (t : Truth). cond t one other) (lt-leb p place h)

  pub op_flows : (start : ℕ) (op : Op) (before after : List Kind) → onward r start op before ≡ Some (Next, after) → Flows r start (op ∷ []) before after
  op_flows start op before after takes =
      let next : start < start + 1 = omega arith in
      let here : start ≤ start = omega arith in
      record {
        table = λ p. cond (nat_le p start) before after;
        first = up_to start start before after here;
        last = behind start (start + 1) before after next;
        steps = (
          record {
            way = Next;
            after = after;
            takes = subst (λ (s : List Kind). onward r start op s ≡ Some (Next, after)) (sym (up_to start start before after here)) takes;
            there = λ place goes.
                let less : start < place = omega (arith, goes) in
                let within : place ≤ start + 1 = omega (arith, goes) in
                (less, within, behind start place before after less);
          },
          tt,
        );
      }

  pub flows_then : (start : ℕ) (xs ys : List Op) (before between after : List Kind) → Flows r start xs before between → Flows r (start + length xs) ys between after → Flows r start (xs ++ ys) before after
  flows_then start xs ys before between after f g =
      let mid : ℕ = start + length xs in
      let len : start + length xs + length ys ≡ start + length (xs ++ ys) = omega (arith, length-append xs ys) in
      let below : start ≤ start + length xs = omega arith in
      let above : start + length xs ≤ start + length xs + length ys = omega arith in
      let here : start + length xs ≤ start + length xs = omega arith in
      record {
        table = table;
        first = sym (by_one start below) ∙ f.first;
        last = ap table (sym len) ∙ sym (by_other (start + length xs + length ys) above) ∙ g.last;
        steps = subst (λ (n : ℕ). Steps r table n start (xs ++ ys)) len
            (steps_both table (start + length xs + length ys) start xs ys
            (steps_kept f.table table (start + length xs) (start + length xs + length ys) start xs above here (λ p from to. by_one p to) f.steps)
            (steps_kept g.table table (start + length xs + length ys) (start + length xs + length ys) (start + length xs) ys (omega arith) (omega arith) (λ p from to. by_other p from) g.steps));
      }
    where
      table : ℕ → List Kind
      table p = cond (nat_le p (start + length xs)) (f.table p) (g.table p)

      by_one : (p : ℕ) → p ≤ start + length xs → f.table p ≡ table p
      by_one p h = sym (up_to (start + length xs) p (f.table p) (g.table p) h)

      by_other : (p : ℕ) → start + length xs ≤ p → g.table p ≡ table p
      by_other p h = by (nat_le p (start + length xs)) refl
        where
          by : (t : Truth) → nat_le p (start + length xs) ≡ t → g.table p ≡ cond t (f.table p) (g.table p)
          by false e = refl
          by true e =
              let same : p ≡ start + length xs = omega (arith, h, leb-true p (start + length xs) e) in
              ap g.table same ∙ g.first ∙ sym f.last ∙ ap f.table (sym same)

  -- ---- a choice

  pub ahead : (count at to : ℕ) → at < to → to ≤ count → is_ahead count at to ≡ true
  ahead count at to less within = ap (λ (t : Truth). t && nat_le to count) (lt-ltb at to less) ∙ le-leb to count within

  pub choice_flows : (kind : Kind) (start : ℕ) (condition one two : List Op) (stack : List Kind)
      → Flows r start condition stack (BOOLEAN ∷ stack)
      → Flows r (start + length condition + 1) one stack (kind ∷ stack)
      → Flows r (no_place (start + length condition) one) two stack (kind ∷ stack)
      → start + length (choice_ops kind (start + length condition) condition one two) ≤ length r.ops
      → Flows r start (choice_ops kind (start + length condition) condition one two) stack (kind ∷ stack)
  choice_flows kind start condition one two stack f g h room = record {
    table = table;
    first = sym (by_condition start (omega arith)) ∙ f.first;
    last = ap table (sym len) ∙ ended;
    steps = subst (λ (n : ℕ). Steps r table n start (choice_ops kind at condition one two)) len
        (steps_both table end start condition (branch ∷ (one ++ jump ∷ (two ++ jump ∷ last ∷ [])))
        (steps_kept f.table table at end start condition (omega arith) (omega arith) (λ p from to. by_condition p to) f.steps) (
          branches,
          steps_both table end (at + 1) one (jump ∷ (two ++ jump ∷ last ∷ []))
              (steps_kept g.table table past end (at + 1) one (omega arith) (omega arith) (λ p from to. by_first p from to) g.steps) (
                leaps past (omega arith) past_first,
                steps_both table end no two (jump ∷ last ∷ [])
                    (steps_kept h.table table till end no two (omega arith) (omega arith) (λ p from to. by_second p from to) h.steps)
                    (leaps till (omega arith) past_second, (pushes, tt)),
              ),
        ));
  }
    where
      at : ℕ
      at = start + length condition

      past : ℕ
      past = start + length condition + 1 + length one

      no : ℕ
      no = no_place (start + length condition) one

      till : ℕ
      till = no_place (start + length condition) one + length two

      na : ℕ
      na = na_place (start + length condition) one two

      end : ℕ
      end = na_place (start + length condition) one two + 1

      branch : Op
      branch = Branch (no_place (start + length condition) one) (na_place (start + length condition) one two)

      jump : Op
      jump = Jump (na_place (start + length condition) one two + 1)

      last : Op
      last = Push Na kind

      in_na : ℕ → List Kind
      in_na p = cond (nat_le p na) stack (kind ∷ stack)

      in_second : ℕ → List Kind
      in_second p = cond (nat_le p till) (h.table p) (in_na p)

      in_first : ℕ → List Kind
      in_first p = cond (nat_le p past) (g.table p) (in_second p)

      table : ℕ → List Kind
      table p = cond (nat_le p at) (f.table p) (in_first p)

      len : end ≡ start + length (choice_ops kind (start + length condition) condition one two)
      len = omega (arith, length-append condition (branch ∷ (one ++ jump ∷ (two ++ jump ∷ last ∷ []))), length-append one (jump ∷ (two ++ jump ∷ last ∷ [])), length-append two (jump ∷ last ∷ []))

      room_there : end ≤ length r.ops
      room_there = omega (arith, len, room)

      by_condition : (p : ℕ) → p ≤ at → f.table p ≡ table p
      by_condition p to = sym (up_to at p (f.table p) (in_first p) to)

      after_condition : (p : ℕ) → at < p → in_first p ≡ table p
      after_condition p from = sym (behind at p (f.table p) (in_first p) from)

      by_first : (p : ℕ) → at + 1 ≤ p → p ≤ past → g.table p ≡ table p
      by_first p from to = sym (up_to past p (g.table p) (in_second p) to) ∙ after_condition p (omega (arith, from))

      after_first : (p : ℕ) → past < p → in_second p ≡ table p
      after_first p from = sym (behind past p (g.table p) (in_second p) from) ∙ after_condition p (omega (arith, from))

      by_second : (p : ℕ) → no ≤ p → p ≤ till → h.table p ≡ table p
      by_second p from to = sym (up_to till p (h.table p) (in_na p) to) ∙ after_first p (omega (arith, from))

      after_second : (p : ℕ) → till < p → in_na p ≡ table p
      after_second p from = sym (behind till p (h.table p) (in_na p) from) ∙ after_first p (omega (arith, from))

      ended : table end ≡ kind ∷ stack
      ended = sym (after_second end (omega arith)) ∙ behind na end stack (kind ∷ stack) (omega arith)

      at_na : table na ≡ stack
      at_na = sym (after_second na (omega arith)) ∙ up_to na na stack (kind ∷ stack) (omega arith)

      past_first : table past ≡ kind ∷ stack
      past_first = sym (by_first past (omega arith) (omega arith)) ∙ g.last

      past_second : table till ≡ kind ∷ stack
      past_second = sym (by_second till (omega arith) (omega arith)) ∙ h.last

      branch_goes : (place : ℕ) → GoesTo at (Fork no na) place → (at < place) × (place ≤ end) × (table place ≡ stack)
      branch_goes place (inl e) = (omega (arith, e), omega (arith, e), ap table e ∙ sym (by_second no (omega arith) (omega arith)) ∙ h.first)
      branch_goes place (inr (inl e)) = (omega (arith, e), omega (arith, e), ap table e ∙ at_na)
      branch_goes place (inr (inr e)) = (omega (arith, e), omega (arith, e), ap table e ∙ sym (by_first (at + 1) (omega arith) (omega arith)) ∙ g.first)

      branches : Step r table end at branch
      branches =
          let boolean : table at ≡ BOOLEAN ∷ stack = sym (by_condition at (omega arith)) ∙ f.last in
          let to_no : is_ahead (length r.ops) at no ≡ true = ahead (length r.ops) at no (omega arith) (omega (arith, room_there)) in
          let to_na : is_ahead (length r.ops) at na ≡ true = ahead (length r.ops) at na (omega arith) (omega (arith, room_there)) in
          record {
            way = Fork no na;
            after = stack;
            takes = ap (onward r at branch) boolean
                ∙ ap (λ (t : Truth). when (t && is_ahead (length r.ops) at na) (Fork no na, stack)) to_no
                ∙ ap (λ (t : Truth). when t (Fork no na, stack)) to_na;
            there = branch_goes;
          }

      leaps : (p : ℕ) → p < end → table p ≡ kind ∷ stack → Step r table end p jump
      leaps p less here = record {
        way = Leap end;
        after = kind ∷ stack;
        takes = ap (onward r p jump) here ∙ ap (λ (t : Truth). when t (Leap end, kind ∷ stack)) (ahead (length r.ops) p end less room_there);
        there = λ place goes. (omega (arith, less, goes), omega (arith, goes), ap table goes ∙ ended);
      }

      pushes : Step r table end na last
      pushes = record {
        way = Next;
        after = kind ∷ stack;
        takes = ap (onward r na last) at_na ∙ na_pushed kind stack;
        there = λ place goes. (omega (arith, goes), omega (arith, goes), ap table goes ∙ ended);
      }

-- ---- ops that take no kinds to one are accepted

abbrev way_in : Onward → Way
way_in None = Next
way_in (Some onward) = onward.0

abbrev kinds_in : Onward → List Kind
kinds_in None = []
kinds_in (Some onward) = onward.1

module _ (r : Rules) (kind : Kind) (f : Flows r 0 r.ops [] (kind ∷ [])) where
  step_at : (ops : List Op) (at k : ℕ) (op : Op) → Steps r f.table (length r.ops) at ops → slice_get ops k ≡ Some op → Step r f.table (length r.ops) (at + k) op
  step_at [] at k op s e = absurd (cc)
  step_at (x ∷ xs) at zero op s e =
      let same : x ≡ op = cc in
      let here : at ≡ at + 0 = omega arith in
      subst (λ (n : ℕ). Step r f.table (length r.ops) n op) here (subst (λ (o : Op). Step r f.table (length r.ops) at o) same s.0)
  step_at (x ∷ xs) at (suc k) op s e =
      let here : at + 1 + k ≡ at + suc k = omega arith in
      subst (λ (n : ℕ). Step r f.table (length r.ops) n op) here (step_at xs (at + 1) k op s.1 e)

  by_table : (at : ℕ) (op : Op) → slice_get r.ops at ≡ Some op → Step r f.table (length r.ops) at op
  by_table at op here =
      let end : 0 + length r.ops ≡ length r.ops = omega arith in
      let place : 0 + at ≡ at = omega arith in
      subst (λ (n : ℕ). Step r f.table (length r.ops) n op) place (step_at r.ops 0 at op (subst (λ (n : ℕ). Steps r f.table n 0 r.ops) end f.steps) here)

  leads_by : (n place : ℕ) (stack : List Kind) → LeadTo r n place stack → stack ≡ f.table place
  leads_by zero place stack lead = lead.1 ∙ sym f.first ∙ ap f.table (sym lead.0)
  leads_by (suc at) place stack (inl lead) = leads_by at place stack lead
  leads_by (suc at) place stack (inr (before, lead, leads)) =
      let s = by_table at leads.op leads.here in
      let takes : onward r at leads.op (f.table at) ≡ Some (leads.way, stack) = subst (λ (b : List Kind). onward r at leads.op b ≡ Some (leads.way, stack)) (leads_by at at before lead) leads.takes in
      let both : Some (s.way, s.after) ≡ Some (leads.way, stack) = sym s.takes ∙ takes in
      let way : s.way ≡ leads.way = ap way_in both in
      let after : s.after ≡ stack = ap kinds_in both in
      sym after ∙ sym (s.there place (subst (λ (w : Way). GoesTo at w place) (sym way) leads.there)).2

  never_stuck : (at : ℕ) → IsStuck r at → ⊥
  never_stuck at stuck =
      let s = by_table at stuck.op stuck.here in
      let none : onward r at stuck.op (f.table at) ≡ None = subst (λ (b : List Kind). onward r at stuck.op b ≡ None) (leads_by at at stuck.stack stuck.reached) stuck.stuck in
      let both : Some (s.way, s.after) ≡ None = sym s.takes ∙ none in
      absurd (true≢false (ap is_some both))

  never_torn : (at : ℕ) → IsTorn r at → ⊥
  never_torn at torn = torn.differ (leads_by at at torn.one torn.by_one ∙ sym (leads_by at at torn.other torn.by_other))

  ends_well : EndsBadly r (length r.ops) → ⊥
  ends_well ends =
      let end : 0 + length r.ops ≡ length r.ops = omega arith in
      let last : ends.stack ≡ kind ∷ [] = leads_by (length r.ops) (length r.ops) ends.stack ends.reached ∙ ap f.table (sym end) ∙ f.last in
      ends.many (ap length last)

  pub is_sound : IsSound r
  is_sound = record { ops = λ at bad. ⊎_elim (never_stuck at) (never_torn at) bad; end = ends_well }
