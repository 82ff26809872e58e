-- Seats that are split and joined keep the rule, and what it says at the start and at the end.
use Rattle.std.proofs.Common.{◌≡◌, ◌≢◌, ℕ, zero, suc, ◌+◌, ◌<◌, ◌≤◌, false, cond, eqb, List, [], ◌∷◌, ◌++◌, length, set, sym, refl, ap, ◌∙◌, subst, ⊎_elim, arith, Option, Some, None, length-append}
use Rattle.std.proofs.lemmas.Option.{none-some, same_Some}
use Rattle.std.proofs.lemmas.Bool.{false≢true}
use mathlib.Core.Logic.{dite}
use mathlib.Core.Option.{some, none, some-injective, some-ne-none}
use mathlib.Core.Option as maybe
use native.Mathlib.Decide.{ℕ_discrete}
use lib.ListN.{get_elem?}
use Rattle.atomic_table.specs.Table.{State, Splits, Joins, opening}
use Rattle.atomic_table.proofs.Lists.{set_else, at_snoc, at_longer}
use Rattle.mv_desk.specs.declared.view.Caller.{Caller}
use Rattle.mv_desk.specs.declared.view.View.{View}
use Rattle.mv_desk.specs.inside.Rule.{total, Below, once_below, waits_at, homes_of, waits, size, numbered, newcomer, Knows, Kept, Whole}
use Rattle.mv_desk.specs.inside.Steps.{count_or, more, either_count, splitting, split_off, joined, nobody}
use Rattle.mv_desk.proofs.Lists.{total_set, total_one, total_two, total_snoc, total_only, each_set, here, below_more, no_calls, times_append, are_append, times_none, once_next, once_zero}
use Rattle.mv_desk.proofs.Steps.{apart_set}

module _ {S E R : Type 0} (go : S → E → R → S → Type 0) (o : S) (most : ℕ) where
  abbrev V : Type 0
  V = View S E R

  abbrev St : Type 0
  St = State S V

  abbrev Rule : St → Type 0
  Rule = Kept go o most

  only : (K : ℕ → V → Type 0) (v : V) → K 0 v → (i : ℕ) (u : V) → get_elem? (v ∷ []) i ≡ some u → K i u
  only K v h zero u at = subst (K 0) (some-injective v u at) h
  only K v h (suc i) u at = absurd (some-ne-none u (sym at))

  pub opens : 1 ≤ most → most ≤ 64 → Rule (opening (0 ∷ 0 ∷ []) (o ∷ []) (newcomer o))
  opens least at_most = record {
    draws = 0;
    log = [];
    machine = o;
    count = 1;
    keeper = 0;
    holder = None;
    words = refl;
    fits = omega arith;
    drawn = refl;
    sized = refl;
    within = (least, at_most);
    numbers = λ n. (let a : once_below n 0 + (cond (eqb n 0) 1 0 + 0) ≡ once_below n 1 = once_next n 0 in let z : once_below n 0 ≡ 0 = once_zero n in omega arith);
    below = tt;
    legal = refl;
    homes = refl;
    held = λ i e. absurd (none-some i e);
    each = only (Knows o [] 0 1 0 None) (newcomer o) record {
      opened = λ p e. sym (same_Some o p e);
      ticket = λ d e. absurd (none-some d e);
      turn = λ e. absurd (false≢true e);
      callers = ((([], refl), refl), tt);
      counts = λ c e. (sym (same_Some 1 c e), refl, omega arith);
    };
    apart = λ i j d v w at at' t t'. absurd (only (λ _ u. u.ticket ≡ Some d → ⊥) (newcomer o) (λ e. none-some d e) i v at t);
  }

  pub splits : (id n : ℕ) (v : V) → v.count ≡ Some n → n < most → Splits Rule id v (splitting v) (split_off v)
  splits id n v counted room s k at =
      let l : V = splitting v in
      let r : V = split_off v in
      let mine = k.each id v at in
      let same : n ≡ k.count = (mine.counts n counted).0 in
      let keeps_it : id ≡ k.keeper = (mine.counts n counted).1 in
      let number : count_or v.count ≡ k.count = ap count_or counted ∙ same in
      let vs : List V = set s.views id l in
      let tot : (f : V → ℕ) → f l ≡ f v → total f (vs ++ r ∷ []) ≡ total f s.views + f r =
      λ f e. (let a = total_snoc f vs r in let b = total_set f s.views id v l at in let e' : f l ≡ f v = e in omega arith) in
      record {
        draws = k.draws;
        log = k.log;
        machine = k.machine;
        count = k.count + 1;
        keeper = k.keeper;
        holder = k.holder;
        words = k.words;
        fits = k.fits;
        drawn = (let t = tot waits refl in let d = k.drawn in let z : waits r ≡ 0 = refl in omega arith);
        sized = (let t = tot size refl in let d = k.sized in let z : size r ≡ 1 = refl in omega arith);
        within = ((let c = same in let m = room in omega arith), k.within.1);
        numbers = λ x. tot (numbered x) refl ∙ (ap (λ (t : ℕ). t + numbered x r) (k.numbers x) ∙ (ap (λ (t : ℕ). once_below x k.count + (cond (eqb x t) 1 0 + 0)) number ∙ once_next x k.count));
        below = below_more k.count (k.count + 1) k.log (omega arith) k.below;
        legal = k.legal;
        homes = k.homes;
        held = λ i e. let h = k.held i e in dite (ℕ_discrete i id)
            (λ is. (l, at_longer vs (r ∷ []) i l (ap (get_elem? vs) is ∙ here s.views id v l at), ap (λ (u : V). u.turn) (some-injective v h.0 (sym at ∙ (ap (get_elem? s.views) (sym is) ∙ h.1))) ∙ h.2))
            (λ other. (h.0, at_longer vs (r ∷ []) i h.0 (set_else s.views id i l other ∙ h.1), h.2));
        each = λ i u at'. ⊎_elim
            (λ (a : get_elem? vs i ≡ some u). each_set (Knows o k.log k.draws (k.count + 1) k.keeper k.holder) s.views id l
            record {
              opened = mine.opened;
              ticket = mine.ticket;
              turn = mine.turn;
              callers = mine.callers;
              counts = λ c e. ((let p : n + 1 ≡ c = same_Some (n + 1) c (sym (ap more counted) ∙ e) in let q = same in omega arith), keeps_it, (mine.counts n counted).2);
            }
            (λ j w ne b. let q = k.each j w b in record {
              opened = q.opened;
              ticket = q.ticket;
              turn = q.turn;
              callers = q.callers;
              counts = λ c e. absurd (ne ((q.counts c e).1 ∙ sym keeps_it));
            }) i u a)
            (λ (a : r ≡ u). subst (Knows o k.log k.draws (k.count + 1) k.keeper k.holder i) a record {
              opened = mine.opened;
              ticket = λ d e. absurd (none-some d e);
              turn = λ e. absurd (false≢true e);
              callers = (((k.log, refl), sym (no_calls k.count (count_or v.count) k.log (omega arith) k.below)), tt);
              counts = λ c e. absurd (none-some c e);
            })
            (at_snoc vs r u i at');
        apart = λ i j d u w a b t t'. ⊎_elim
            (λ (p : get_elem? vs i ≡ some u). ⊎_elim
            (λ (q : get_elem? vs j ≡ some w). apart_set go o most s.views id l k.apart (λ m dd x ne c e e'. absurd (ne (k.apart id m dd v x at c e e'))) i j d u w p q t t')
            (λ (q : r ≡ w). absurd (none-some d (ap (λ (y : V). y.ticket) q ∙ t')))
            (at_snoc vs r w j b))
            (λ (p : r ≡ u). absurd (none-some d (ap (λ (y : V). y.ticket) p ∙ t)))
            (at_snoc vs r u i a);
      }

  keeper_after : ℕ → ℕ → Option ℕ → ℕ
  keeper_after keeper id None = keeper
  keeper_after keeper id (Some c) = id

  -- who has the count after two seats are joined
  counted_after : (keeper count id other : ℕ) (a b : Option ℕ) → ((c : ℕ) → a ≡ Some c → (c ≡ count) × (id ≡ keeper)) → ((c : ℕ) → b ≡ Some c → (c ≡ count) × (other ≡ keeper)) → other ≢ id
      → (c : ℕ) → either_count a b ≡ Some c → (c ≡ count) × (id ≡ keeper_after keeper id b)
  unfolding keeper_after
  counted_after keeper count id other None None h g ne c e = absurd (none-some c e)
  counted_after keeper count id other None (Some n) h g ne c e = ((g c e).0, refl)
  counted_after keeper count id other (Some m) None h g ne c e = h c e
  counted_after keeper count id other (Some m) (Some n) h g ne c e = absurd (ne ((g n refl).1 ∙ sym (h m refl).1))

  others_after : (keeper id other j : ℕ) (b : Option ℕ) → ((n : ℕ) → b ≡ Some n → other ≡ keeper) → j ≢ other → j ≡ keeper → j ≡ keeper_after keeper id b
  unfolding keeper_after
  others_after keeper id other j None g ne e = e
  others_after keeper id other j (Some n) g ne e = absurd (ne (e ∙ sym (g n refl)))

  some_caller : (a b : Option ℕ) (n m : ℕ) → ((c : ℕ) → a ≡ Some c → 0 < n) → ((c : ℕ) → b ≡ Some c → 0 < m) → (c : ℕ) → either_count a b ≡ Some c → 0 < m + n
  some_caller None b n m h g c e = let p = g c e in omega arith
  some_caller (Some x) b n m h g c e = let p = h x refl in omega arith

  pub joins : (id other : ℕ) (v w : V) → v.ticket ≡ None → w.ticket ≡ None → w.turn ≡ false → Joins Rule id v other w (joined v w) nobody
  joins id other v w free free' no_turn s k at apart there =
      let l : V = joined v w in
      let mine = k.each id v at in
      let there' : get_elem? s.views other ≡ some w = sym (set_else s.views id other l apart) ∙ there in
      let theirs = k.each other w there' in
      let vs : List V = set s.views id l in
      let keeper' : ℕ = keeper_after k.keeper id w.count in
      let tot : (f : V → ℕ) → f l ≡ f w + f v → f (nobody {S = S} {E = E} {R = R}) ≡ 0 → total f (set vs other nobody) ≡ total f s.views =
      λ f e z. (let a = total_set f vs other w nobody there in let b = total_set f s.views id v l at in let e' : f l ≡ f w + f v = e in let z' : f nobody ≡ 0 = z in omega arith) in
      let has : (j : ℕ) (u : V) → get_elem? (set vs other nobody) j ≡ some u → Knows o k.log k.draws k.count keeper' k.holder j u =
      each_set (Knows o k.log k.draws k.count keeper' k.holder) vs other nobody record {
        opened = λ p e. absurd (none-some p e);
        ticket = λ d e. absurd (none-some d e);
        turn = λ e. absurd (false≢true e);
        callers = tt;
        counts = λ c e. absurd (none-some c e);
      } (λ j u ne a. each_set (λ i x. i ≢ other → Knows o k.log k.draws k.count keeper' k.holder i x) s.views id l
      (λ _. record {
        opened = mine.opened;
        ticket = λ d e. absurd (none-some d (sym free ∙ e));
        turn = mine.turn;
        callers = are_append k.log w.callers v.callers theirs.callers mine.callers;
        counts = λ c e.
            let t = counted_after k.keeper k.count id other v.count w.count (λ x p. ((mine.counts x p).0, (mine.counts x p).1)) (λ x p. ((theirs.counts x p).0, (theirs.counts x p).1)) apart c e in
            (t.0, t.1, (let y = some_caller v.count w.count (length v.callers) (length w.callers) (λ x p. (mine.counts x p).2) (λ x p. (theirs.counts x p).2) c e in omega (arith, length-append w.callers v.callers)));
      })
      (λ i x out b off. let q = k.each i x b in record {
        opened = q.opened;
        ticket = q.ticket;
        turn = q.turn;
        callers = q.callers;
        counts = λ c e. let t = q.counts c e in (t.0, others_after k.keeper id other i w.count (λ n p. (theirs.counts n p).1) off t.1, t.2);
      }) j u a ne) in
      record {
        draws = k.draws;
        log = k.log;
        machine = k.machine;
        count = k.count;
        keeper = keeper';
        holder = k.holder;
        words = k.words;
        fits = k.fits;
        drawn = (let t = tot waits (let z : waits w ≡ 0 = ap waits_at free' in let y : waits l ≡ waits v = refl in omega arith) refl in let d = k.drawn in omega arith);
        sized = tot size (length-append w.callers v.callers) refl ∙ k.sized;
        within = k.within;
        numbers = λ x. tot (numbered x) (times_append x w.callers v.callers) refl ∙ k.numbers x;
        below = k.below;
        legal = k.legal;
        homes = k.homes;
        held = λ i e. let h = k.held i e in
            let off : i ≢ other = λ is. absurd (false≢true (sym no_turn ∙ (ap (λ (u : V). u.turn) (some-injective w h.0 (sym there' ∙ (ap (get_elem? s.views) (sym is) ∙ h.1))) ∙ h.2))) in
            dite (ℕ_discrete i id)
            (λ is. (l, set_else vs other i nobody off ∙ (ap (get_elem? vs) is ∙ here s.views id v l at), ap (λ (u : V). u.turn) (some-injective v h.0 (sym at ∙ (ap (get_elem? s.views) (sym is) ∙ h.1))) ∙ h.2))
            (λ out. (h.0, set_else vs other i nobody off ∙ (set_else s.views id i l out ∙ h.1), h.2));
        each = has;
        apart = apart_set go o most vs other nobody (apart_set go o most s.views id l k.apart (λ m dd x ne c e e'. absurd (none-some dd (sym free ∙ e)))) (λ m dd x ne c e e'. absurd (none-some dd e));
      }

  pub closes : (s : St) (id : ℕ) (v : V) → Rule s → get_elem? s.views id ≡ some v → v.turn ≡ false → most ≤ length v.callers → (m : S) × (get_elem? s.homes 0 ≡ some (some m)) × Whole go o most v.callers m
  closes s id v k at no_turn all =
      let mine = k.each id v at in
      let alone : (j : ℕ) (u : V) → j ≢ id → get_elem? s.views j ≡ some u → length u.callers ≡ 0 =
      λ j u ne a. (let t = total_two size s.views id j v u (λ e. ne (sym e)) at a in let z = k.sized in let w = k.within.0 in omega arith) in
      let every : k.count ≡ most = (let t = total_one size s.views id v at in let z = k.sized in let w = k.within.0 in omega arith) in
      let home : k.holder ≡ None = by_holder s id v k at no_turn alone k.holder refl in (
        k.machine,
        ap (λ (hs : List (maybe.Option S)). get_elem? hs 0) (k.homes ∙ ap (λ (h : Option ℕ). homes_of h k.machine) home),
        (
          k.log,
          k.legal,
          mine.callers,
          subst (λ (n : ℕ). Below n k.log) every k.below,
          (let t = total_one size s.views id v at in let z = k.sized in let w = k.within.0 in omega arith),
          (λ n. sym (total_only (numbered n) s.views id v at (λ j u ne a. times_none n u.callers (alone j u ne a))) ∙ (k.numbers n ∙ ap (once_below n) every)),
        ),
      )
    where
      by_holder : (s' : St) (id' : ℕ) (v' : V) (k' : Kept go o most s') → get_elem? s'.views id' ≡ some v' → v'.turn ≡ false → ((j : ℕ) (u : V) → j ≢ id' → get_elem? s'.views j ≡ some u → length u.callers ≡ 0) → (h : Option ℕ) → k'.holder ≡ h → k'.holder ≡ None
      by_holder s' id' v' k' at' nt alone None e = e
      by_holder s' id' v' k' at' nt alone (Some j) e =
          let h = k'.held j e in
          let t = (k'.each j h.0 h.1).turn h.2 in
          let full = ((k'.each j h.0 h.1).ticket (length k'.log) t.1).2 in
          dite (ℕ_discrete j id')
          (λ is. absurd (false≢true (sym nt ∙ (ap (λ (u : V). u.turn) (some-injective v' h.0 (sym at' ∙ (ap (get_elem? s'.views) (sym is) ∙ h.1))) ∙ h.2))))
          (λ out. let none' = alone j h.0 out h.1 in absurd (omega arith))

  pub whole_same : (p : S) (n n' : ℕ) (cs cs' : List (Caller E R)) (m m' : S) → p ≡ o → n ≡ n' → cs ≡ cs' → m ≡ m' → Whole go p n cs m → Whole go o n' cs' m'
  whole_same p n n' cs cs' m m' a b c d h = subst (λ (x : S × ℕ × List (Caller E R) × S). Whole go x.0 x.1 x.2 x.3) (λ i. (a i, b i, c i, d i)) h
