-- Each step keeps the rule.
use Rattle.std.proofs.Common.{◌≡◌, ◌≢◌, ℕ, ◌+◌, ◌%◌, ◌^◌, ◌<◌, ◌≤◌, Bool, true, false, cond, ltb, List, [], ◌∷◌, ◌++◌, length, set, get_or, sym, refl, ap, ◌∙◌, subst, ⊎_elim, arith, Option, Some, None, length-append, append-nil, ltb-true}
use Rattle.std.proofs.lemmas.Option.{none-some, same_Some}
use Rattle.std.proofs.lemmas.Bool.{false≢true}
use Rattle.std.proofs.Math.Nat.{mod-add-mod, mod-eq_of_lt}
use mathlib.Core.Logic.{dite}
use mathlib.Core.Option.{some, none, some-injective, some-ne-none}
use mathlib.Core.Option as maybe
use native.Mathlib.Decide.{ℕ_discrete}
use lib.ListN.{get_elem?}
use lib.Seq.{set-get_or}
use Rattle.atomic_table.specs.Table.{State, step, Act, Valid, carried_after, rest, keeps, takes, gives, stepped, homes_after, Allows}
use Rattle.atomic_table.proofs.Lists.{at_set, set_else, set_again, one_turn}
use Rattle.mv_desk.specs.declared.history.Call.{Call}
use Rattle.mv_desk.specs.declared.view.Caller.{Caller}
use Rattle.mv_desk.specs.declared.view.View.{View}
use Rattle.mv_desk.specs.History.{Leads}
use Rattle.mv_desk.specs.inside.Rule.{total, times, AreOf, once_below, waits_at, homes_of, waits, size, numbered, Knows, Kept}
use Rattle.mv_desk.specs.inside.Steps.{waiting, taking, served_as, served, drew, looked, passed}
use Rattle.mv_desk.proofs.Lists.{total_set, total_one, total_two, total_le, each_set, here, calls_snoc, times_here, are_longer, below_snoc}

module _ {S E R : Type 0} (go : S → E → R → S → Type 0) (o : S) (most : ℕ) where
  abbrev V : Type 0
  V = View S E R

  abbrev St : Type 0
  St = State S V

  abbrev Rule : St → Type 0
  Rule = Kept go o most

  abbrev Apart : List V → Type 0
  Apart vs = (i j d : ℕ) (v w : V) → get_elem? vs i ≡ some v → get_elem? vs j ≡ some w → v.ticket ≡ Some d → w.ticket ≡ Some d → j ≡ i

  -- one view more or less with a ticket
  pub apart_set : (vs : List V) (me : ℕ) (w : V) → Apart vs → ((j d : ℕ) (u : V) → j ≢ me → get_elem? vs j ≡ some u → w.ticket ≡ Some d → u.ticket ≡ Some d → ⊥) → Apart (set vs me w)
  apart_set vs me w apart new i j d u x at at' t t' =
      ⊎_elim
      (λ (a : (i ≡ me) × (w ≡ u)). ⊎_elim
      (λ (b : (j ≡ me) × (w ≡ x)). b.0 ∙ sym a.0)
      (λ (b : (j ≢ me) × (get_elem? vs j ≡ some x)). absurd (new j d x b.0 b.1 (ap (λ (y : V). y.ticket) a.1 ∙ t) t'))
      (at_set vs me j w x at'))
      (λ (a : (i ≢ me) × (get_elem? vs i ≡ some u)). ⊎_elim
      (λ (b : (j ≡ me) × (w ≡ x)). absurd (new i d u a.0 a.1 (ap (λ (y : V). y.ticket) b.1 ∙ t') t))
      (λ (b : (j ≢ me) × (get_elem? vs j ≡ some x)). apart i j d u x a.1 b.1 t t')
      (at_set vs me j w x at'))
      (at_set vs me i w u at)

  -- a change of one view that keeps its callers keeps the totals over callers
  same_total : (f : V → ℕ) (vs : List V) (me : ℕ) (v w : V) → get_elem? vs me ≡ some v → f v ≡ f w → total f (set vs me w) ≡ total f vs
  same_total f vs me v w at e = let t = total_set f vs me v w at in omega arith

  pub draws : (slots id : ℕ) (v : V) (cs : List (ℕ × S)) → v.ticket ≡ None → v.turn ≡ false → 0 < length v.callers → Allows Rule slots id (v, cs) 0 (λ n. (n + 1) % 2 ^ 64) (drew (step slots 0 1 0 none) (v, cs))
  draws slots id v cs free no_turn some_caller s k sl at small =
      let w : V = waiting k.draws v in
      let mine = k.each id v at in (
        w,
        keeps,
        tt,
        record {
          draws = k.draws + 1;
          log = k.log;
          machine = k.machine;
          count = k.count;
          keeper = k.keeper;
          holder = k.holder;
          words = subst (λ (ws : List ℕ). set ws 0 ((get_or ws 0 0 + 1) % 2 ^ 64) ≡ (k.draws + 1) % 2 ^ 64 ∷ length k.log ∷ []) (sym k.words) (ap (λ (n : ℕ). n ∷ length k.log ∷ []) (mod-add-mod k.draws (2 ^ 64) 1));
          fits = k.fits;
          drawn = (let t = total_set waits s.views id v w at in let e : waits v ≡ 0 = ap waits_at free in let d = k.drawn in omega arith);
          sized = same_total size s.views id v w at refl ∙ k.sized;
          within = k.within;
          numbers = λ n. same_total (numbered n) s.views id v w at refl ∙ k.numbers n;
          below = k.below;
          legal = k.legal;
          homes = k.homes;
          held = λ i e. let h = k.held i e in dite (ℕ_discrete i id)
              (λ same. absurd (false≢true (sym no_turn ∙ (ap (λ (y : V). y.turn) (some-injective v h.0 (sym at ∙ (ap (get_elem? s.views) (sym same) ∙ h.1))) ∙ h.2))))
              (λ other. (h.0, set_else s.views id i w other ∙ h.1, h.2));
          each = each_set (Knows o k.log (k.draws + 1) k.count k.keeper k.holder) s.views id w
              record {
                opened = mine.opened;
                ticket = λ d e. let same : k.draws ≡ d = same_Some k.draws d e in let dr = k.drawn in (omega arith, omega arith, some_caller);
                turn = λ e. absurd (false≢true e);
                callers = mine.callers;
                counts = mine.counts;
              }
              (λ j u ne at'. let q = k.each j u at' in record {
                opened = q.opened;
                ticket = λ d e. let t = q.ticket d e in (t.0, (let b = t.1 in omega arith), t.2);
                turn = q.turn;
                callers = q.callers;
                counts = q.counts;
              });
          apart = apart_set s.views id w k.apart (λ j d u ne at' e e'. let same : k.draws ≡ d = same_Some k.draws d e in let t = ((k.each j u at').ticket d e').1 in absurd (omega arith));
        },
        (k.draws, refl, ap (λ (ws : List ℕ). get_or ws 0 0) k.words),
      )

  -- the number of tickets is at most that of callers
  few : (s : St) → Kept go o most s → total waits s.views ≤ 64
  few s k =
      let le : total waits s.views ≤ total size s.views = total_le waits size s.views (λ i v at. by_ticket v.ticket v ((k.each i v at).ticket) refl) in
      let t = k.sized in let u = k.within.0 in let w = k.within.1 in omega arith
    where
      by_ticket : (t : Option ℕ) (v : V) → ((d : ℕ) → v.ticket ≡ Some d → (length k.log ≤ d) × (d < k.draws) × (0 < length v.callers)) → v.ticket ≡ t → waits v ≤ size v
      by_ticket None v h e = let z : waits v ≡ 0 = ap waits_at e in omega arith
      by_ticket (Some d) v h e = let z : waits v ≡ 1 = ap waits_at e in let p = (h d e).2 in omega arith

  -- what is found is the ticket: it is the seat's turn
  served_now : (s : St) (k : Kept go o most s) (id d : ℕ) (v : V) → get_elem? s.views id ≡ some v → v.ticket ≡ Some d → length k.log ≡ d % 2 ^ 64 → length k.log ≡ d
  served_now s k id d v at t e =
      let m = (k.each id v at).ticket d t in let f = few s k in let dr = k.drawn in let fit = k.fits in let le = m.0 in let lt = m.1 in
      one_turn (length k.log) d (2 ^ 64) le (omega arith) (mod-eq_of_lt fit ∙ e)

  unmoved : (s : St) (i id : ℕ) (v : V) → Rule s → get_elem? s.views id ≡ some v → Rule record { words = set s.words i (get_or s.words i 0); homes = s.homes; views = set s.views id v }
  unmoved s i id v k at = subst (λ (p : List ℕ × List V). Rule record { words = p.0; homes = s.homes; views = p.1 }) (λ n. (sym (set-get_or s.words i 0) n, sym (set_again s.views id v at) n)) k

  -- where a seat without the turn has the next ticket, no seat has the turn
  at_home : (s : St) (k : Kept go o most s) (id : ℕ) (v : V) → get_elem? s.views id ≡ some v → v.turn ≡ false → v.ticket ≡ Some (length k.log) → (h : Option ℕ) → k.holder ≡ h → k.holder ≡ None
  at_home s k id v at no_turn t None e = e
  at_home s k id v at no_turn t (Some j) e =
      let h = k.held j e in
      let u : V = h.0 in
      let same : j ≡ id = k.apart id j (length k.log) v u at h.1 t ((k.each j u h.1).turn h.2).1 in
      absurd (false≢true (sym no_turn ∙ (ap (λ (y : V). y.turn) (some-injective v u (sym at ∙ (ap (get_elem? s.views) (sym same) ∙ h.1))) ∙ h.2)))

  abbrev Looking : ℕ → ℕ → V → List (ℕ × S) → St → Type 0
  Looking slots id v cs s = (w : V) × (a : Act S) × Valid s.homes cs a × Rule (stepped s 1 (get_or s.words 1 0) id cs w a) × looked go (step slots 1 0 0 none) (v, cs) (get_or s.words 1 0) (w, carried_after cs a)

  looks_on : (slots id : ℕ) (v : V) (cs : List (ℕ × S)) (s : St) → Rule s → get_elem? s.views id ≡ some v → ((d : ℕ) → v.ticket ≡ Some d → get_or s.words 1 0 ≢ d % 2 ^ 64) → Looking slots id v cs s
  looks_on slots id v cs s k at other = (v, keeps, tt, unmoved s 1 id v k at, λ d e. ((λ r. absurd (other d e r)), (λ _. refl)))

  looks_in : (slots id : ℕ) (v : V) (cs : List (ℕ × S)) (s : St) (k : Kept go o most s) → get_elem? s.views id ≡ some v → v.turn ≡ false → v.ticket ≡ Some (length k.log) → Looking slots id v cs s
  looks_in slots id v cs s k at no_turn t =
      let w : V = taking k.log v in
      let mine = k.each id v at in
      let free : k.holder ≡ None = at_home s k id v at no_turn t k.holder refl in
      let homes : s.homes ≡ some k.machine ∷ [] = k.homes ∙ ap (λ (h : Option ℕ). homes_of h k.machine) free in
      let found : get_or s.words 1 0 ≡ length k.log = ap (λ (ws : List ℕ). get_or ws 1 0) k.words in (
        w,
        takes 0 k.machine,
        ap (λ (hs : List (maybe.Option S)). get_elem? hs 0) homes,
        record {
          draws = k.draws;
          log = k.log;
          machine = k.machine;
          count = k.count;
          keeper = k.keeper;
          holder = Some id;
          words = set-get_or s.words 1 0 ∙ k.words;
          fits = k.fits;
          drawn = k.drawn ∙ ap (λ (n : ℕ). length k.log + n) (sym (same_total waits s.views id v w at refl));
          sized = same_total size s.views id v w at refl ∙ k.sized;
          within = k.within;
          numbers = λ n. same_total (numbered n) s.views id v w at refl ∙ k.numbers n;
          below = k.below;
          legal = k.legal;
          homes = ap (λ (hs : List (maybe.Option S)). set hs 0 none) homes;
          held = λ i e. (w, ap (λ (n : ℕ). get_elem? (set s.views id w) n) (sym (same_Some id i e)) ∙ here s.views id v w at, refl);
          each = each_set (Knows o k.log k.draws k.count k.keeper (Some id)) s.views id w
              record {
                opened = mine.opened;
                ticket = mine.ticket;
                turn = λ _. (refl, t, refl);
                callers = mine.callers;
                counts = mine.counts;
              }
              (λ j u ne at'. let q = k.each j u at' in record {
                opened = q.opened;
                ticket = q.ticket;
                turn = λ e. absurd (none-some j (sym free ∙ (q.turn e).0));
                callers = q.callers;
                counts = q.counts;
              });
          apart = apart_set s.views id w k.apart (λ j d u ne at' e e'. absurd (ne (k.apart id j d v u at at' e e')));
        },
        λ d e. (
          (λ r. (k.log, k.machine, refl, found, mine.callers, (λ oo e'. subst (λ (x : S). Leads go x k.log k.machine) (sym (mine.opened oo e')) k.legal))),
          (λ ne. absurd (ne (found ∙ (sym (mod-eq_of_lt k.fits) ∙ ap (λ (n : ℕ). n % 2 ^ 64) (same_Some (length k.log) d (sym t ∙ e)))))),
        ),
      )

  pub looks : (slots id : ℕ) (v : V) (cs : List (ℕ × S)) → v.turn ≡ false → Allows Rule slots id (v, cs) 1 (λ n. n) (looked go (step slots 1 0 0 none) (v, cs))
  looks slots id v cs no_turn s k sl at small = by_ticket slots id v cs no_turn s k at v.ticket refl
    where
      found : (s' : St) (k' : Kept go o most s') → get_or s'.words 1 0 ≡ length k'.log
      found s' k' = ap (λ (ws : List ℕ). get_or ws 1 0) k'.words

      by_case : (slots' id' : ℕ) (v' : V) (cs' : List (ℕ × S)) → v'.turn ≡ false → (s' : St) (k' : Kept go o most s') → get_elem? s'.views id' ≡ some v' → (d : ℕ) → v'.ticket ≡ Some d → Dec (length k'.log ≡ d % 2 ^ 64) → Looking slots' id' v' cs' s'
      by_case slots' id' v' cs' nt s' k' at' d t (yes e) = looks_in slots' id' v' cs' s' k' at' nt (t ∙ ap (λ (n : ℕ). Some n) (sym (served_now s' k' id' d v' at' t e)))
      by_case slots' id' v' cs' nt s' k' at' d t (no ne) = looks_on slots' id' v' cs' s' k' at' (λ d' e r. ne (sym (found s' k') ∙ (r ∙ ap (λ (n : ℕ). n % 2 ^ 64) (same_Some d' d (sym e ∙ t)))))

      by_ticket : (slots' id' : ℕ) (v' : V) (cs' : List (ℕ × S)) → v'.turn ≡ false → (s' : St) (k' : Kept go o most s') → get_elem? s'.views id' ≡ some v' → (t : Option ℕ) → v'.ticket ≡ t → Looking slots' id' v' cs' s'
      by_ticket slots' id' v' cs' nt s' k' at' None t = looks_on slots' id' v' cs' s' k' at' (λ d e. absurd (none-some d (sym t ∙ e)))
      by_ticket slots' id' v' cs' nt s' k' at' (Some d) t = by_case slots' id' v' cs' nt s' k' at' d t (ℕ_discrete (length k'.log) (d % 2 ^ 64))

  pub leads_snoc : (a : S) (log : List (Call E R)) (m n : S) (call : Call E R) → Leads go a log m → go m call.entry call.reply n → Leads go a (log ++ call ∷ []) n
  leads_snoc a [] m n call h g = (n, subst (λ (x : S). go x call.entry call.reply n) h g, refl)
  leads_snoc a (c ∷ cs) m n call h g = (h.0, h.1, leads_snoc h.0 cs m n call h.2 g)

  at_most_once : (n count : ℕ) → once_below n count ≤ 1
  at_most_once n count = by_bit (ltb n count)
    where
      by_bit : (b : Bool) → cond b 1 0 ≤ 1
      by_bit true = omega arith
      by_bit false = omega arith

  once : (n count : ℕ) → 1 ≤ once_below n count → n < count
  once n count h = by_test (ltb n count) refl
    where
      by_test : (b : Bool) → ltb n count ≡ b → n < count
      by_test true e = ltb-true n count e
      by_test false e = absurd (let z : once_below n count ≡ 0 = ap (λ (b : Bool). cond b 1 0) e in omega arith)

  times_served : (n : ℕ) (log : List (Call E R)) (call : Call E R) (cs : List (Caller E R)) → times n (served_as log call cs) ≡ times n cs
  times_served n log call [] = refl
  times_served n log call (c ∷ cs) = refl

  length_served : (log : List (Call E R)) (call : Call E R) (cs : List (Caller E R)) → length (served_as log call cs) ≡ length cs
  length_served log call [] = refl
  length_served log call (c ∷ cs) = refl

  -- the caller that passes on has the history
  are_served : (log : List (Call E R)) (call : Call E R) (c : Caller E R) → call.by ≡ c.number → AreOf log (c ∷ []) → AreOf (log ++ call ∷ []) (served_as log call (c ∷ []))
  are_served log call c by h = ((([], sym (append-nil (log ++ call ∷ []))), ap (λ l. l ++ call ∷ []) h.0.1 ∙ sym (calls_snoc c.number log call (sym by))), tt)

  pub passes : (slots id : ℕ) (v : V) (cs : List (ℕ × S)) (said : Option (Call E R)) (call : Call E R) (c : Caller E R) (m n : S) → v.turn ≡ true → v.callers ≡ c ∷ [] → cs ≡ (0, n) ∷ [] → said ≡ Some call → call.by ≡ c.number
      → length v.copy + 1 < 2 ^ 64 → Leads go o v.copy m → go m call.entry call.reply n → Allows Rule slots id (v, cs) 1 (λ x. (x + 1) % 2 ^ 64) (passed said (step slots 1 1 0 none) (v, cs))
  passes slots id v cs said call c m n has_turn one holding says by room legal acted s k sl at small =
      let w : V = served call v in
      let mine = k.each id v at in
      let turn = mine.turn has_turn in
      let copy : v.copy ≡ k.log = turn.2 in
      let log' : List (Call E R) = k.log ++ call ∷ [] in
      let longer : length log' ≡ length k.log + 1 = length-append k.log (call ∷ []) in
      let copied : length v.copy ≡ length k.log = ap length copy in
      let in_view : 1 ≤ numbered call.by v = subst (λ (l : List (Caller E R)). 1 ≤ times call.by l) (sym one) (times_here call.by c [] by) in
      let alone : total (numbered call.by) s.views ≤ 1 = rw (k.numbers call.by) (at_most_once call.by k.count) in
      let known : call.by < k.count = once call.by k.count (let a = total_one (numbered call.by) s.views id v at in let b = k.numbers call.by in omega arith) in
      let homes : s.homes ≡ none ∷ [] = k.homes ∙ ap (λ (h : Option ℕ). homes_of h k.machine) turn.0 in (
        w,
        gives,
        tt,
        record {
          draws = k.draws;
          log = log';
          machine = n;
          count = k.count;
          keeper = k.keeper;
          holder = None;
          words = subst (λ (ws : List ℕ). set ws 1 ((get_or ws 1 0 + 1) % 2 ^ 64) ≡ k.draws % 2 ^ 64 ∷ length log' ∷ []) (sym k.words) (ap (λ (x : ℕ). k.draws % 2 ^ 64 ∷ x ∷ []) (mod-eq_of_lt (let r = room in omega arith) ∙ sym longer));
          fits = (let r = room in omega arith);
          drawn = (let t = total_set waits s.views id v w at in let e : waits v ≡ 1 = ap waits_at turn.1 in let d = k.drawn in omega arith);
          sized = same_total size s.views id v w at (sym (length_served v.copy call v.callers)) ∙ k.sized;
          within = k.within;
          numbers = λ x. same_total (numbered x) s.views id v w at (sym (times_served x v.copy call v.callers)) ∙ k.numbers x;
          below = below_snoc k.count k.log call known k.below;
          legal = leads_snoc o k.log m n call (subst (λ (l : List (Call E R)). Leads go o l m) copy legal) acted;
          homes = subst (λ (x : List (maybe.Option S) × List (ℕ × S)). homes_after x.0 x.1 gives ≡ some n ∷ []) (λ i. (sym homes i, sym holding i)) refl;
          held = λ i e. absurd (none-some i e);
          each = each_set (Knows o log' k.draws k.count k.keeper None) s.views id w
              record {
                opened = mine.opened;
                ticket = λ d e. absurd (none-some d e);
                turn = λ e. absurd (false≢true e);
                callers = subst (λ (x : List (Call E R) × List (Caller E R)). AreOf log' (served_as x.0 call x.1)) (λ i. (sym copy i, sym one i))
                    (are_served k.log call c by (subst (λ (l : List (Caller E R)). AreOf k.log l) one mine.callers));
                counts = λ x e. let q = mine.counts x e in let l = length_served v.copy call v.callers in (q.0, q.1, (let p = q.2 in omega arith));
              }
              (λ j u ne at'. let q = k.each j u at' in record {
                opened = q.opened;
                ticket = λ d e.
                    let t = q.ticket d e in
                    let other : length k.log ≢ d = λ same. ne (k.apart id j d v u at at' (turn.1 ∙ ap (λ (x : ℕ). Some x) same) e) in
                    let a = t.0 in (omega arith, t.1, t.2);
                turn = λ e. absurd (ne (same_Some j id (sym (q.turn e).0 ∙ turn.0)));
                callers = are_longer k.log call u.callers (let two = total_two (numbered call.by) s.views id j v u (λ e. ne (sym e)) at at' in omega arith) q.callers;
                counts = q.counts;
              });
          apart = apart_set s.views id w k.apart (λ j d u ne at' e e'. absurd (none-some d e));
        },
        (call, says, ap (λ (l : List (ℕ × S)). (w, rest l)) holding),
      )
