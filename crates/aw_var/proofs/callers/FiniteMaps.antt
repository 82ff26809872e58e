-- Finite maps to cells over keys in any order: what they have after each change, and that two are one where they agree.
use Rattle.std.proofs.Common.{◌≡◌, Bool, true, false, cond, not, ◌&&◌, List, [], ◌∷◌, map, Option, Some, None, unwrap_or, refl, sym, ap, subst, ◌∙◌, Ordering, Less, Equal, Greater, ◌↔◌, ℕ, suc, arith}
use Rattle.std.proofs.Math.Dec.{T}
use Rattle.std.proofs.lemmas.Bool.Decides.{Decides-ltb}
use Rattle.std.specs.List.{list_all, filter}
use Rattle.std.specs.Ordering.{eq_by_cmp, is_eq, is_lt}
use Rattle.std.specs.Cmp.{IsTotalOrder, alike_right, eq_by_cmp_equiv}
use Rattle.std.specs.FinMap.{find, put, is_sorted, IsAntisymmetric}
use Rattle.std.specs.FinMap.Entries.{where_key, below_all, by_order, find-put, find-where_key, is_sorted-put, is_sorted-where_key, same_entries}
use Rattle.std.specs.Prelude.{nat_lt}
use Rattle.aw_cell.specs.declared.cell.Cell.{Cell}
use Rattle.aw_cell.specs.declared.cell.Cell.TheVariants.{Na, Num, Int, Text, Bool as Truth, Slot}
use Rattle.aw_cell.specs.Cell.{same_cell}
use Rattle.aw_cell.specs.SameCell.{same_cell-Decides}
use Rattle.aw_page.specs.Fitting.{is_na}
use Rattle.aw_var.specs.CellMap.{IsMapBy, cell_by, without_by, set_by}
use Rattle.aw_var.specs.CellPatch.{overwritten_by, composed_by, differ_by, taken_away_by, difference_by}
use Rattle.aw_lists.specs.Coord.{AreSlots}

pub both_true : (a b : Bool) → (a && b) ≡ true → (a ≡ true) × (b ≡ true)
both_true true b h = (refl, h)
both_true false b h = cc

pub and_true : (a b : Bool) → a ≡ true → b ≡ true → (a && b) ≡ true
and_true true b p q = q
and_true false b p q = cc

pub to_T : (b : Bool) → b ≡ true → T b
to_T b e = subst T (sym e) tt

pub from_T : (b : Bool) → T b → b ≡ true
from_T true h = refl
from_T false h = absurd h

not_true : (b : Bool) → not b ≡ true → b ≡ false
not_true true h = cc
not_true false h = refl

pub equal_of : (r : Ordering) → is_eq r ≡ true → r ≡ Equal
equal_of Less p = cc
equal_of Equal p = refl
equal_of Greater p = cc

less_of : (r : Ordering) → is_lt r ≡ true → r ≡ Less
less_of Less p = refl
less_of Equal p = cc
less_of Greater p = cc

pub turned : {A : Type 0} (b : Bool) (x y : A) → cond (not b) x y ≡ cond b y x
turned true x y = refl
turned false x y = refl

-- a cell that isn't NA
abbrev pub kept : Cell → Option Cell
kept cell = cond (is_na cell) None (Some cell)

pub unwrap_or-kept : (c : Cell) → unwrap_or (kept c) Na ≡ c
unwrap_or-kept Na = refl
unwrap_or-kept (Num a) = refl
unwrap_or-kept (Int a) = refl
unwrap_or-kept (Text a) = refl
unwrap_or-kept (Truth a) = refl
unwrap_or-kept (Slot a) = refl

-- the first of two where there is one
abbrev pub either : {A : Type 0} → Option A → Option A → Option A
either (Some x) other = Some x
either None other = other

-- NA in place of a cell
abbrev na_for : Option Cell → Option Cell
na_for (Some c) = Some Na
na_for None = None

-- what stands in a patch where two maps have the cells x and y
changed : (x y : Cell) → either (cond (not (same_cell x y)) (kept y) None) (na_for (cond (is_na y) (kept x) None)) ≡ cond (not (same_cell x y)) (Some y) None
changed Na Na = refl
changed (Num a) Na = refl
changed (Int a) Na = refl
changed (Text a) Na = refl
changed (Truth a) Na = refl
changed (Slot a) Na = refl
changed x (Num b) = elim (same_cell x (Num b)) as (λ s. either (cond (not s) (Some (Num b)) None) None ≡ cond (not s) (Some (Num b)) None) [ true ↦ refl | false ↦ refl ]
changed x (Int b) = elim (same_cell x (Int b)) as (λ s. either (cond (not s) (Some (Int b)) None) None ≡ cond (not s) (Some (Int b)) None) [ true ↦ refl | false ↦ refl ]
changed x (Text b) = elim (same_cell x (Text b)) as (λ s. either (cond (not s) (Some (Text b)) None) None ≡ cond (not s) (Some (Text b)) None) [ true ↦ refl | false ↦ refl ]
changed x (Truth b) = elim (same_cell x (Truth b)) as (λ s. either (cond (not s) (Some (Truth b)) None) None ≡ cond (not s) (Some (Truth b)) None) [ true ↦ refl | false ↦ refl ]
changed x (Slot b) = elim (same_cell x (Slot b)) as (λ s. either (cond (not s) (Some (Slot b)) None) None ≡ cond (not s) (Some (Slot b)) None) [ true ↦ refl | false ↦ refl ]

same_from : (x y : Cell) → same_cell x y ≡ true → x ≡ y
same_from x y e = (same_cell-Decides x y).0 e

module _ {K : Type 0} {R : K → K → Ordering} (o : IsTotalOrder R) where
  -- a key below all others is not among them
  pub absent : {X : Type 0} (q k : K) (es : List (K × X)) → below_all R k es ≡ true → R q k ≡ Equal → find R q es ≡ None
  absent q k [] below t = refl
  absent q k (e ∷ es) below t =
      let parts = both_true (is_lt (R k e.0)) (below_all R k es) below in
      let less : R q e.0 ≡ Less = o.congr q k e.0 t ∙ less_of (R k e.0) parts.0 in
      ap (λ r. cond (is_eq r) (Some e.1) (find R q es)) less ∙ absent q k es parts.1 t

  pub find-without : (q k : K) (cells : List (K × Cell)) → find R q (without_by R cells k) ≡ cond (eq_by_cmp R q k) None (find R q cells)
  find-without q k cells =
      find-where_key R (λ x. not (eq_by_cmp R k x)) q (λ x t. ap (λ r. not (is_eq r)) (sym (alike_right o q x k t))) cells
      ∙ turned (eq_by_cmp R k q) (find R q cells) None ∙ ap (λ b. cond b None (find R q cells)) ((eq_by_cmp_equiv o).symm k q)

  pub find-set : (q k : K) (c : Cell) (cells : List (K × Cell)) → find R q (set_by R cells k c) ≡ cond (eq_by_cmp R q k) (kept c) (find R q cells)
  find-set q k c cells =
      elim (is_na c) as (λ b. find R q (cond b (without_by R cells k) (put R k c cells)) ≡ cond (eq_by_cmp R q k) (cond b None (Some c)) (find R q cells)) [
        | true ↦ find-without q k cells
        | false ↦ find-put R o q k c cells
      ]

  pub cell-set : (q k : K) (c : Cell) (cells : List (K × Cell)) → cell_by R (set_by R cells k c) q ≡ cond (eq_by_cmp R q k) c (cell_by R cells q)
  cell-set q k c cells =
      ap (λ x. unwrap_or x Na) (find-set q k c cells)
      ∙ elim (eq_by_cmp R q k) as (λ b. unwrap_or (cond b (kept c) (find R q cells)) Na ≡ cond b c (cell_by R cells q)) [ true ↦ unwrap_or-kept c | false ↦ refl ]

  present-filter : (p : K × Cell → Bool) (es : List (K × Cell)) → list_all (λ pair. not (is_na pair.1)) es ≡ true → list_all (λ pair. not (is_na pair.1)) (filter p es) ≡ true
  present-filter p [] h = refl
  present-filter p (e ∷ es) h =
      let parts = both_true (not (is_na e.1)) (list_all (λ pair. not (is_na pair.1)) es) h in
      let rest = present-filter p es parts.1 in
      elim (p e) as (λ b. list_all (λ (pair : K × Cell). not (is_na pair.1)) (cond b (e ∷ filter p es) (filter p es)) ≡ true) [ true ↦ and_true _ _ parts.0 rest | false ↦ rest ]

  present-put : (k : K) (c : Cell) (es : List (K × Cell)) → is_na c ≡ false → list_all (λ pair. not (is_na pair.1)) es ≡ true → list_all (λ pair. not (is_na pair.1)) (put R k c es) ≡ true
  present-put k c [] some h = and_true _ _ (ap not some) refl
  present-put k c (e ∷ es) some h =
      let parts = both_true (not (is_na e.1)) (list_all (λ pair. not (is_na pair.1)) es) h in
      elim (R k e.0) as (λ r. list_all (λ (pair : K × Cell). not (is_na pair.1)) (by_order r ((k, c) ∷ e ∷ es) ((e.0, c) ∷ es) (e ∷ put R k c es)) ≡ true) [
        | Less ↦ and_true _ _ (ap not some) h
        | Equal ↦ and_true _ _ (ap not some) parts.1
        | Greater ↦ and_true _ _ parts.0 (present-put k c es some parts.1)
      ]

  pub IsMapBy-set : (k : K) (c : Cell) (cells : List (K × Cell)) → IsMapBy R cells → IsMapBy R (set_by R cells k c)
  IsMapBy-set k c cells h =
      elim (is_na c) as (λ b. is_na c ≡ b → IsMapBy R (cond b (without_by R cells k) (put R k c cells))) [
        | true ↦ λ _. record {
          rising = from_T _ (is_sorted-where_key R (λ x. not (eq_by_cmp R k x)) cells (to_T _ h.rising));
          present = present-filter _ cells h.present;
        }
        | false ↦ λ some. record {
          rising = from_T _ (is_sorted-put R o k c cells (to_T _ h.rising));
          present = present-put k c cells some h.present;
        }
      ] refl

  -- what is found is the cell, where it isn't NA
  pub found : (cells : List (K × Cell)) (q : K) → list_all (λ pair. not (is_na pair.1)) cells ≡ true → find R q cells ≡ kept (cell_by R cells q)
  found [] q h = refl
  found (e ∷ es) q h =
      let parts = both_true (not (is_na e.1)) (list_all (λ pair. not (is_na pair.1)) es) h in
      elim (eq_by_cmp R q e.0) as (λ b. cond b (Some e.1) (find R q es) ≡ kept (unwrap_or (cond b (Some e.1) (find R q es)) Na)) [
        | true ↦ ap (λ b. cond b None (Some e.1)) (sym (not_true _ parts.0))
        | false ↦ found es q parts.1
      ]

  pub find-composed : (q : K) (first second : List (K × Cell)) → is_sorted R second ≡ true → find R q (composed_by R first second) ≡ either (find R q second) (find R q first)
  find-composed q first [] rising = refl
  find-composed q first (e ∷ es) rising =
      let parts = both_true (below_all R e.0 es) (is_sorted R es) rising in
      find-composed q (put R e.0 e.1 first) es parts.1
      ∙ ap (λ x. either (find R q es) x) (find-put R o q e.0 e.1 first)
      ∙ elim (eq_by_cmp R q e.0) as (λ b. eq_by_cmp R q e.0 ≡ b → either (find R q es) (cond b (Some e.1) (find R q first)) ≡ either (cond b (Some e.1) (find R q es)) (find R q first)) [
        | true ↦ λ tied. ap (λ x. either x (Some e.1)) (absent q e.0 es parts.0 (equal_of _ tied))
        | false ↦ λ _. refl
      ] refl

  pub is_sorted-composed : (first second : List (K × Cell)) → is_sorted R first ≡ true → is_sorted R (composed_by R first second) ≡ true
  is_sorted-composed first [] rising = rising
  is_sorted-composed first (e ∷ es) rising = is_sorted-composed (put R e.0 e.1 first) es (from_T _ (is_sorted-put R o e.0 e.1 first (to_T _ rising)))

  below-na : (k : K) (es : List (K × Cell)) → below_all R k (map (λ pair. (pair.0, Na)) es) ≡ below_all R k es
  below-na k [] = refl
  below-na k (e ∷ es) = ap (λ b. is_lt (R k e.0) && b) (below-na k es)

  is_sorted-na : (es : List (K × Cell)) → is_sorted R (map (λ pair. (pair.0, Na)) es) ≡ is_sorted R es
  is_sorted-na [] = refl
  is_sorted-na (e ∷ es) = λ i. below-na e.0 es i && is_sorted-na es i

  find-na : (q : K) (es : List (K × Cell)) → find R q (map (λ pair. (pair.0, Na)) es) ≡ na_for (find R q es)
  find-na q [] = refl
  find-na q (e ∷ es) =
      ap (λ x. cond (eq_by_cmp R q e.0) (Some Na) x) (find-na q es)
      ∙ elim (eq_by_cmp R q e.0) as (λ b. cond b (Some Na) (na_for (find R q es)) ≡ na_for (cond b (Some e.1) (find R q es))) [ true ↦ refl | false ↦ refl ]

  pub IsMapBy-overwritten : (cells patch : List (K × Cell)) → IsMapBy R cells → IsMapBy R (overwritten_by R cells patch)
  IsMapBy-overwritten cells [] h = h
  IsMapBy-overwritten cells (e ∷ es) h = IsMapBy-overwritten (set_by R cells e.0 e.1) es (IsMapBy-set e.0 e.1 cells h)

  pub cell-overwritten : (q : K) (cells patch : List (K × Cell)) → is_sorted R patch ≡ true → cell_by R (overwritten_by R cells patch) q ≡ unwrap_or (find R q patch) (cell_by R cells q)
  cell-overwritten q cells [] rising = refl
  cell-overwritten q cells (e ∷ es) rising =
      let parts = both_true (below_all R e.0 es) (is_sorted R es) rising in
      cell-overwritten q (set_by R cells e.0 e.1) es parts.1
      ∙ ap (λ x. unwrap_or (find R q es) x) (cell-set q e.0 e.1 cells)
      ∙ elim (eq_by_cmp R q e.0) as (λ b. eq_by_cmp R q e.0 ≡ b → unwrap_or (find R q es) (cond b e.1 (cell_by R cells q)) ≡ unwrap_or (cond b (Some e.1) (find R q es)) (cell_by R cells q)) [
        | true ↦ λ tied. ap (λ x. unwrap_or x e.1) (absent q e.0 es parts.0 (equal_of _ tied))
        | false ↦ λ _. refl
      ] refl

  module _ (exact : IsAntisymmetric R) where
    -- two maps with one cell at each key are one
    pub same_map : (a b : List (K × Cell)) → IsMapBy R a → IsMapBy R b → ((q : K) → cell_by R a q ≡ cell_by R b q) → a ≡ b
    same_map a b f g same = same_entries R o exact a b (to_T _ f.rising) (to_T _ g.rising) (λ q. found a q f.present ∙ ap kept (same q) ∙ sym (found b q g.present))

    find-taken : (q : K) (a b : List (K × Cell)) → find R q (taken_away_by R a b) ≡ na_for (cond (is_na (cell_by R b q)) (find R q a) None)
    find-taken q a b =
        find-na q (where_key R (λ key. is_na (cell_by R b key)) a)
        ∙ ap na_for (find-where_key R (λ key. is_na (cell_by R b key)) q (λ x t. ap (λ key. is_na (cell_by R b key)) (sym (exact q x t))) a)

    find-changed : (q : K) (a b : List (K × Cell)) → find R q (where_key R (differ_by R a b) b) ≡ cond (differ_by R a b q) (find R q b) None
    find-changed q a b = find-where_key R (differ_by R a b) q (λ x t. ap (differ_by R a b) (sym (exact q x t))) b

    is_sorted-changed : (a b : List (K × Cell)) → is_sorted R b ≡ true → is_sorted R (where_key R (differ_by R a b) b) ≡ true
    is_sorted-changed a b rising = from_T _ (is_sorted-where_key R (differ_by R a b) b (to_T _ rising))

    pub find-difference : (q : K) (a b : List (K × Cell)) → IsMapBy R a → IsMapBy R b → find R q (difference_by R a b) ≡ cond (differ_by R a b q) (Some (cell_by R b q)) None
    find-difference q a b f g =
        find-composed q (taken_away_by R a b) (where_key R (differ_by R a b) b) (is_sorted-changed a b g.rising)
        ∙ ap (λ x. either x (find R q (taken_away_by R a b))) (find-changed q a b ∙ ap (λ x. cond (differ_by R a b q) x None) (found b q g.present))
        ∙ ap (λ x. either (cond (differ_by R a b q) (kept (cell_by R b q)) None) x) (find-taken q a b ∙ ap (λ x. na_for (cond (is_na (cell_by R b q)) x None)) (found a q f.present))
        ∙ changed (cell_by R a q) (cell_by R b q)

    pub is_sorted-difference : (a b : List (K × Cell)) → IsMapBy R a → is_sorted R (difference_by R a b) ≡ true
    is_sorted-difference a b f =
        is_sorted-composed (taken_away_by R a b) (where_key R (differ_by R a b) b) (is_sorted-na (where_key R (λ key. is_na (cell_by R b key)) a) ∙ from_T _ (is_sorted-where_key R (λ key. is_na (cell_by R b key)) a (to_T _ f.rising)))

    -- a patch that has what a difference has is that difference
    pub is_difference : (a b patch : List (K × Cell)) → IsMapBy R a → IsMapBy R b → is_sorted R patch ≡ true →
        ((q : K) → find R q patch ≡ cond (differ_by R a b q) (Some (cell_by R b q)) None) → patch ≡ difference_by R a b
    is_difference a b patch f g rising same = same_entries R o exact patch (difference_by R a b) (to_T _ rising) (to_T _ (is_sorted-difference a b f)) (λ q. same q ∙ sym (find-difference q a b f g))

    pub difference-newer : (a b : List (K × Cell)) → IsMapBy R a → IsMapBy R b → overwritten_by R a (difference_by R a b) ≡ b
    difference-newer a b f g =
        same_map (overwritten_by R a (difference_by R a b)) b (IsMapBy-overwritten a (difference_by R a b) f) g (λ q.
        cell-overwritten q a (difference_by R a b) (is_sorted-difference a b f)
        ∙ ap (λ x. unwrap_or x (cell_by R a q)) (find-difference q a b f g)
        ∙ elim (same_cell (cell_by R a q) (cell_by R b q)) as (λ s. same_cell (cell_by R a q) (cell_by R b q) ≡ s → unwrap_or (cond (not s) (Some (cell_by R b q)) None) (cell_by R a q) ≡ cell_by R b q) [
          | true ↦ λ e. same_from _ _ e
          | false ↦ λ _. refl
        ] refl)

    overwritten-put : (k : K) (c : Cell) (cells first : List (K × Cell)) → IsMapBy R cells → is_sorted R first ≡ true →
        set_by R (overwritten_by R cells first) k c ≡ overwritten_by R cells (put R k c first)
    overwritten-put k c cells first h rising =
        same_map _ _ (IsMapBy-set k c _ (IsMapBy-overwritten cells first h)) (IsMapBy-overwritten cells (put R k c first) h) (λ q.
        cell-set q k c (overwritten_by R cells first)
        ∙ ap (λ x. cond (eq_by_cmp R q k) c x) (cell-overwritten q cells first rising)
        ∙ elim (eq_by_cmp R q k) as (λ b. cond b c (unwrap_or (find R q first) (cell_by R cells q)) ≡ unwrap_or (cond b (Some c) (find R q first)) (cell_by R cells q)) [ true ↦ refl | false ↦ refl ]
        ∙ ap (λ x. unwrap_or x (cell_by R cells q)) (sym (find-put R o q k c first))
        ∙ sym (cell-overwritten q cells (put R k c first) (from_T _ (is_sorted-put R o k c first (to_T _ rising)))))

    pub overwritten-composed : (cells first second : List (K × Cell)) → IsMapBy R cells → is_sorted R first ≡ true →
        overwritten_by R (overwritten_by R cells first) second ≡ overwritten_by R cells (composed_by R first second)
    overwritten-composed cells first [] h rising = refl
    overwritten-composed cells first (e ∷ es) h rising =
        ap (λ x. overwritten_by R x es) (overwritten-put e.0 e.1 cells first h rising)
        ∙ overwritten-composed cells (put R e.0 e.1 first) es h (from_T _ (is_sorted-put R o e.0 e.1 first (to_T _ rising)))

    same_where_none : (a b : List (K × Cell)) (q : K) → cond (differ_by R a b q) (Some (cell_by R b q)) None ≡ None → cell_by R a q ≡ cell_by R b q
    same_where_none a b q =
        elim (same_cell (cell_by R a q) (cell_by R b q)) as (λ s. same_cell (cell_by R a q) (cell_by R b q) ≡ s → cond (not s) (Some (cell_by R b q)) None ≡ None → cell_by R a q ≡ cell_by R b q) [
          | true ↦ λ e _. same_from _ _ e
          | false ↦ λ _ e. cc
        ] refl

    none_where_same : (x y : Cell) → x ≡ y → cond (not (same_cell x y)) (Some y) None ≡ None
    none_where_same x y e = ap (λ s. cond (not s) (Some y) None) ((same_cell-Decides x y).1 e)

    pub difference-empty : (a b : List (K × Cell)) → IsMapBy R a → IsMapBy R b → (difference_by R a b ≡ []) ↔ (a ≡ b)
    difference-empty a b f g = (
      λ none. same_map a b f g (λ q. same_where_none a b q (sym (find-difference q a b f g) ∙ ap (λ x. find R q x) none)),
      λ same. sym (is_difference a b [] f g refl (λ q. sym (none_where_same _ _ (ap (λ x. cell_by R x q) same)))),
    )

pub slots_all : (slots : List ℕ) → AreSlots slots → list_all (λ slot. nat_lt slot 65536) slots ≡ true
slots_all [] each = refl
slots_all (x ∷ xs) each = and_true (nat_lt x 65536) (list_all (λ slot. nat_lt slot 65536) xs) ((Decides-ltb x 65536).1 (each 0 0 (omega arith))) (slots_all xs (λ k d h. each (suc k) d (omega arith)))
