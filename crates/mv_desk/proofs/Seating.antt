-- The passes of a new desk, made one after another, and the seats of passes put together again.
use Rattle.std.proofs.Common.{◌≡◌, ℕ, suc, ◌+◌, ◌-◌, false, List, [], ◌∷◌, ◌++◌, map, take, drop, length, sym, refl, ap, ◌∙◌, subst, arith, Some, None, length-append, All}
use Rattle.std.specs.List.{AllByRecursion, range_with_len}
use Rattle.std.proofs.lemmas.List.{map-append}
use Rattle.std.proofs.lemmas.List.FromFn.{map-range_with_len_more}
use Rattle.std.proofs.lemmas.List.Elements.{recursion_from_All}
use Rattle.atomic_table.specs.Table.{Me}
use Rattle.atomic_table.specs.Seated.{TableId}
use Rattle.atomic_table.specs.declared.shared.Seat.{Seat}
use Rattle.mv_desk.specs.declared.facts.DeskFacts.{DeskFacts}
use Rattle.mv_desk.specs.declared.facts.PassFacts.{PassFacts}
use Rattle.mv_desk.specs.declared.view.Caller.{Caller}
use Rattle.mv_desk.specs.declared.view.View.{View}
use Rattle.mv_desk.specs.Passes.{new_pass, new_passes}
use Rattle.mv_desk.specs.inside.Seats.{fresh, first_caller, caller, IsReady, seat_facts, caller_of}
use Rattle.mv_desk.specs.inside.Steps.{count_or, more, splitting, split_off, joined}
use Rattle.mv_desk.proofs.Lists.{assoc}

module _ {A : Type 0} where
  drop_seam : (xs : List A) (x : A) → drop (length xs) (xs ++ x ∷ []) ≡ x ∷ []
  drop_seam [] x = refl
  drop_seam (y ∷ ys) x = drop_seam ys x

  take_seam : (xs : List A) (x : A) → take (length xs) (xs ++ x ∷ []) ≡ xs
  take_seam [] x = refl
  take_seam (y ∷ ys) x = ap (λ (l : List A). y ∷ l) (take_seam ys x)

  -- the last element put in front
  pub turned_round : (xs : List A) (x : A) (n : ℕ) → n ≡ length xs + 1 → drop (n - 1) (xs ++ x ∷ []) ++ take (n - 1) (xs ++ x ∷ []) ≡ x ∷ xs
  turned_round xs x n e =
      let at : n - 1 ≡ length xs = omega arith in
      ap (λ (k : ℕ). drop k (xs ++ x ∷ []) ++ take k (xs ++ x ∷ [])) at ∙ (λ i. drop_seam xs x i ++ take_seam xs x i)

  pub parts : (P : A → Type 0) (xs : List A) (x : A) → AllByRecursion P (xs ++ x ∷ []) → AllByRecursion P xs × P x
  parts P [] x h = (tt, h.0)
  parts P (y ∷ ys) x h = let t = parts P ys x h.1 in ((h.0, t.0), t.1)

module _ {S E R : Type 0} where
  facts_from : TableId → Me S (View S E R) → PassFacts S E R
  facts_from z m = record { opening = m.0.opening; number = (caller m.0).number; seen = (caller m.0).seen; mine = (caller m.0).mine; table = z }

  -- this many passes are made beside the first seat
  pub record Seated (desk : DeskFacts S) (others : ℕ) (first : Seat S (View S E R)) (passes : List (PassFacts S E R)) : Type 0 where
    pub table : first.table_id ≡ desk.table
    pub ready : IsReady first.me
    pub opened : first.me.0.opening ≡ Some desk.opening
    pub counts : first.me.0.count ≡ Some (others + 1)
    pub callers : first.me.0.callers ≡ fresh 0 ∷ []
    pub made : passes ≡ map (new_pass desk) (range_with_len 1 others)
    pub many : length passes ≡ others

  pub goes_on : (desk : DeskFacts S) (others : ℕ) (first first' new : Seat S (View S E R)) (passes : List (PassFacts S E R)) → Seated desk others first passes → first'.table_id ≡ first.table_id → first'.me ≡ (splitting first.me.0, first.me.1)
      → new.table_id ≡ first.table_id → new.me ≡ (split_off first.me.0, []) → Seated desk (others + 1) first' (passes ++ seat_facts new ∷ [])
  unfolding facts_from
  goes_on desk others first first' new passes h t e t' e' =
      let v = first.me.0 in
      let made : seat_facts new ≡ new_pass desk (others + 1) = (λ i. facts_from ((t' ∙ h.table) i) (e' i)) ∙ (λ i. record { opening = h.opened i; number = count_or (h.counts i); seen = []; mine = []; table = desk.table }) in record {
        table = t ∙ h.table;
        ready = subst (λ (m : Me S (View S E R)). IsReady m) (sym e) h.ready;
        opened = ap (λ (m : Me S (View S E R)). m.0.opening) e ∙ h.opened;
        counts = ap (λ (m : Me S (View S E R)). m.0.count) e ∙ ap more h.counts;
        callers = ap (λ (m : Me S (View S E R)). m.0.callers) e ∙ h.callers;
        made = ap (λ (l : List (PassFacts S E R)). l ++ seat_facts new ∷ []) h.made ∙ (ap (λ (p : PassFacts S E R). map (new_pass desk) (range_with_len 1 others) ++ p ∷ []) made ∙ sym (map-range_with_len_more (new_pass desk) 1 others (others + 1) (omega arith)));
        many = (let a = h.many in omega (arith, length-append passes (seat_facts new ∷ [])));
      }

  pub all_made : (desk : DeskFacts S) (others : ℕ) (first : Seat S (View S E R)) (passes : List (PassFacts S E R)) → Seated desk others first passes → desk.callers ≡ others + 1 → seat_facts first ∷ passes ≡ new_passes desk
  unfolding facts_from
  all_made desk others first passes h e =
      let own : seat_facts first ≡ new_pass desk 0 = (λ i. record { opening = h.opened i; number = (first_caller (h.callers i)).number; seen = (first_caller (h.callers i)).seen; mine = (first_caller (h.callers i)).mine; table = h.table i }) in
      let more_of : suc others ≡ desk.callers = omega arith in
      (λ i. own i ∷ h.made i) ∙ ap (λ (n : ℕ). map (new_pass desk) (range_with_len 0 n)) more_of

  -- the passes that are left, and those whose callers are in the whole
  pub record Gathered (z : TableId) (all left : List (PassFacts S E R)) (whole : Seat S (View S E R)) : Type 0 where
    pub table : whole.table_id ≡ z
    pub free : whole.me.0.ticket ≡ None
    pub idle : whole.me.0.turn ≡ false
    pub left_of : AllByRecursion (λ (p : PassFacts S E R). p.table ≡ z) left
    pub callers : map caller_of left ++ whole.me.0.callers ≡ map caller_of all

  ones : (seat : Seat S (View S E R)) (p : PassFacts S E R) → IsReady seat.me → seat_facts seat ≡ p → seat.me.0.callers ≡ caller_of p ∷ []
  ones seat p ready is = ready.1 ∙ ap (λ (q : PassFacts S E R). caller_of q ∷ []) is

  map_snoc : (left : List (PassFacts S E R)) (p : PassFacts S E R) → map caller_of (left ++ p ∷ []) ≡ map caller_of left ++ caller_of p ∷ []
  map_snoc left p = map-append caller_of left (p ∷ [])

  pub gathers_first : (z : TableId) (before left : List (PassFacts S E R)) (p : PassFacts S E R) (seat : Seat S (View S E R)) → All (λ (q : PassFacts S E R). q.table ≡ z) before → before ≡ left ++ p ∷ []
      → IsReady seat.me → seat_facts seat ≡ p → Gathered z before left seat
  gathers_first z before left p seat h e ready is =
      let t = parts (λ (q : PassFacts S E R). q.table ≡ z) left p (subst (λ (l : List (PassFacts S E R)). AllByRecursion (λ (q : PassFacts S E R). q.table ≡ z) l) e (recursion_from_All (λ (q : PassFacts S E R). q.table ≡ z) before h)) in record {
        table = ap (λ (q : PassFacts S E R). q.table) is ∙ t.1;
        free = ready.0.0;
        idle = ready.0.1;
        left_of = t.0;
        callers = ap (λ (cs : List (Caller E R)). map caller_of left ++ cs) (ones seat p ready is) ∙ (sym (map_snoc left p) ∙ ap (map caller_of) (sym e));
      }

  -- the pass that is taken next
  pub next_table : (z : TableId) (all before left : List (PassFacts S E R)) (p : PassFacts S E R) (whole seat : Seat S (View S E R)) → Gathered z all before whole → before ≡ left ++ p ∷ [] → seat_facts seat ≡ p → seat.table_id ≡ z
  next_table z all before left p whole seat h e is =
      let t = parts (λ (q : PassFacts S E R). q.table ≡ z) left p (subst (λ (l : List (PassFacts S E R)). AllByRecursion (λ (q : PassFacts S E R). q.table ≡ z) l) e h.left_of) in ap (λ (q : PassFacts S E R). q.table) is ∙ t.1

  pub gathers_next : (z : TableId) (all before left : List (PassFacts S E R)) (p : PassFacts S E R) (seat whole whole' : Seat S (View S E R)) → Gathered z all before whole → before ≡ left ++ p ∷ [] → IsReady seat.me → seat_facts seat ≡ p
      → whole'.table_id ≡ whole.table_id → whole'.me ≡ (joined whole.me.0 seat.me.0, whole.me.1) → Gathered z all left whole'
  gathers_next z all before left p seat whole whole' h e ready is t m =
      let r = parts (λ (q : PassFacts S E R). q.table ≡ z) left p (subst (λ (l : List (PassFacts S E R)). AllByRecursion (λ (q : PassFacts S E R). q.table ≡ z) l) e h.left_of) in record {
        table = t ∙ h.table;
        free = ap (λ (x : Me S (View S E R)). x.0.ticket) m ∙ h.free;
        idle = ap (λ (x : Me S (View S E R)). x.0.turn) m ∙ h.idle;
        left_of = r.0;
        callers = ap (λ (x : Me S (View S E R)). map caller_of left ++ x.0.callers) m
            ∙ (ap (λ (cs : List (Caller E R)). map caller_of left ++ (cs ++ whole.me.0.callers)) (ones seat p ready is)
            ∙ (sym (assoc (map caller_of left) (caller_of p ∷ []) whole.me.0.callers)
            ∙ (ap (λ (cs : List (Caller E R)). cs ++ whole.me.0.callers) (sym (map_snoc left p) ∙ ap (map caller_of) (sym e)) ∙ h.callers)));
      }
