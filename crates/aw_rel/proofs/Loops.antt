-- Where as many steps as there are values lead somewhere, a value comes back to itself.
use Rattle.std.proofs.Common.{◌≡◌, ℕ, zero, suc, ◌+◌, ◌-◌, ◌<◌, ◌≤◌, true, false, cond, ◌||◌, ◌==◌, ◌⊎◌, inl, inr, List, [], ◌∷◌, length, Option, Some, None, refl, sym, ap, ◌∙◌, arith}
use Rattle.std.specs.List.{IsDistinct, AllByRecursion, list_any, find}
use Rattle.std.specs.Option.{option_map}
use Rattle.std.specs.Cmp.{decided}
use Rattle.std.proofs.lemmas.Bool.Decides.{Decides-eqb}
use Rattle.std.proofs.lemmas.Map.Made.{length-le_from_is_member}
use Rattle.aw_rel.specs.Hierarchy.{Tree, parent_in, up, is_above, is_within, is_among, slots_in, IsHierarchy}
use Rattle.aw_rel.proofs.Steps.{or_right, or_left, same_number, same_tests, up-add, up-sum, before, leads_of, above_by, lower_to, up-none}

abbrev value_or : Option ℕ → ℕ
value_or None = 0
value_or (Some value) = value

-- the values on the way, the last first
abbrev path : Tree → ℕ → ℕ → List ℕ
path tree zero z = value_or (up tree zero z) ∷ []
path tree (suc k) z = value_or (up tree (suc k) z) ∷ path tree k z

length-path : (tree : Tree) (k z : ℕ) → length (path tree k z) ≡ suc k
length-path tree zero z = refl
length-path tree (suc k) z = ap suc (length-path tree k z)

-- a value on the way
record OnWay (tree : Tree) (most z value : ℕ) : Type 0 where
  steps : ℕ
  few : steps ≤ most
  is : value ≡ value_or (up tree steps z)

sought : (tree : Tree) (k z value : ℕ) → OnWay tree k z value ⊎ AllByRecursion (λ other. (value == other) ≡ false) (path tree k z)
sought tree zero z value =
    elim (value == value_or (up tree zero z)) as (λ b. (value == value_or (up tree zero z)) ≡ b → OnWay tree zero z value ⊎ AllByRecursion (λ other. (value == other) ≡ false) (path tree zero z)) [
      | true ↦ λ t. inl (record { steps = zero; few = omega arith; is = same_number value (value_or (up tree zero z)) t })
      | false ↦ λ t. inr (t, tt)
    ] refl
sought tree (suc k) z value =
    elim (value == value_or (up tree (suc k) z)) as (λ b. (value == value_or (up tree (suc k) z)) ≡ b → OnWay tree (suc k) z value ⊎ AllByRecursion (λ other. (value == other) ≡ false) (path tree (suc k) z)) [
      | true ↦ λ t. inl (record { steps = suc k; few = omega arith; is = same_number value (value_or (up tree (suc k) z)) t })
      | false ↦ λ t. elim (sought tree k z value) [
        | inl w ↦ inl (record { steps = w.steps; few = omega (arith, w.few); is = w.is })
        | inr all ↦ inr (t, all)
      ]
    ] refl

-- two numbers of steps lead to one value
record Meets (tree : Tree) (most z : ℕ) : Type 0 where
  low : ℕ
  high : ℕ
  apart : low < high
  few : high ≤ most
  same : value_or (up tree high z) ≡ value_or (up tree low z)

met : (tree : Tree) (k z : ℕ) → Meets tree k z ⊎ IsDistinct (λ a b. a == b) (path tree k z)
unfolding IsDistinct
met tree zero z = inr (tt, tt)
met tree (suc k) z =
    elim (sought tree k z (value_or (up tree (suc k) z))) [
      | inl w ↦ inl (record { low = w.steps; high = suc k; apart = omega (arith, w.few); few = omega arith; same = w.is })
      | inr all ↦ elim (met tree k z) [
        | inl m ↦ inl (record { low = m.low; high = m.high; apart = m.apart; few = omega (arith, m.few); same = m.same })
        | inr distinct ↦ inr (all, distinct)
      ]
    ]

members : (tree : Tree) (slots : List ℕ) (k z : ℕ) → ((j : ℕ) → j ≤ k → is_among slots (value_or (up tree j z)) ≡ true) → (q : ℕ) → list_any (λ other. q == other) (path tree k z) ≡ true → is_among slots q ≡ true
members tree slots zero z all q h =
    elim (q == value_or (up tree zero z)) as (λ b. (q == value_or (up tree zero z)) ≡ b → (b || false) ≡ true → is_among slots q ≡ true) [
      | true ↦ λ t _. ap (is_among slots) (same_number q (value_or (up tree zero z)) t) ∙ all zero (omega arith)
      | false ↦ λ _ none. cc
    ] refl h
members tree slots (suc k) z all q h =
    elim (q == value_or (up tree (suc k) z)) as (λ b. (q == value_or (up tree (suc k) z)) ≡ b → (b || list_any (λ other. q == other) (path tree k z)) ≡ true → is_among slots q ≡ true) [
      | true ↦ λ t _. ap (is_among slots) (same_number q (value_or (up tree (suc k) z)) t) ∙ all (suc k) (omega arith)
      | false ↦ λ _ rest. members tree slots k z (λ j few. all j (omega (arith, few))) q rest
    ] refl h

-- a value that comes back to itself within so many steps, and the steps from a value to it
pub record Round (tree : Tree) (most z : ℕ) : Type 0 where
  pub value : ℕ
  pub start : ℕ
  pub few : start ≤ most
  pub leads : up tree start z ≡ Some value
  pub steps : ℕ
  pub least : 0 < steps
  pub most_steps : steps ≤ most
  pub round : up tree steps value ≡ Some value

value_is : (x : ℕ) (o : Option ℕ) → o ≡ Some x → value_or o ≡ x
value_is x o e = ap value_or e

-- more steps than there are values lead round
pub goes_round : (tree : Tree) (slots : List ℕ) (most z x : ℕ) → length slots ≤ most → up tree most z ≡ Some x → ((j y : ℕ) → up tree j z ≡ Some y → is_among slots y ≡ true) → Round tree most z
goes_round tree slots most z x few far all =
    let each : (j : ℕ) → j ≤ most → is_among slots (value_or (up tree j z)) ≡ true = λ j h. let l = lower_to tree j most z x h far in ap (is_among slots) (value_is l.0 (up tree j z) l.1) ∙ all j l.0 l.1 in
    elim (met tree most z) [
      | inl m ↦
          let lo = lower_to tree m.low most z x (omega (arith, m.apart, m.few)) far in
          let hi = lower_to tree m.high most z x m.few far in
          let one : hi.0 ≡ lo.0 = sym (value_is hi.0 (up tree m.high z) hi.1) ∙ m.same ∙ value_is lo.0 (up tree m.low z) lo.1 in
          record {
            value = lo.0;
            start = m.low;
            few = omega (arith, m.apart, m.few);
            leads = lo.1;
            steps = m.high - m.low;
            least = omega (arith, m.apart);
            most_steps = omega (arith, m.few);
            round = sym (up-sum tree (m.high - m.low) m.low m.high z lo.0 (omega (arith, m.apart)) lo.1) ∙ hi.1 ∙ ap (λ (n : ℕ). Some n) one;
          }
      | inr distinct ↦
          let short = length-le_from_is_member (decided (λ a b. a == b) Decides-eqb) (path tree most z) slots distinct (members tree slots most z each) in
          absurd (omega (arith, short, length-path tree most z, few))
    ]

-- no value of a hierarchy comes back to itself
pub no_loop_at : (tree all : Tree) (v : ℕ) → option_map (λ value. value.0) (find (λ value. is_above all value.0 value.0) tree) ≡ None → is_among (slots_in tree) v ≡ true → is_above all v v ≡ true → ⊥
no_loop_at [] all v none among loop = cc
no_loop_at (e ∷ tree) all v none among loop =
    elim (is_above all e.0 e.0) as (λ b. is_above all e.0 e.0 ≡ b → option_map (λ (value : ℕ × Option ℕ). value.0) (cond b (Some e) (find (λ value. is_above all value.0 value.0) tree)) ≡ None → ⊥) [
      | true ↦ λ _ some. cc
      | false ↦ λ is rest.
          elim (v == e.0) as (λ c. (v == e.0) ≡ c → (c || is_among (slots_in tree) v) ≡ true → ⊥) [
            | true ↦ λ t _. let same = same_number v e.0 t in let x : is_above all v v ≡ false = ap (λ n. is_above all n n) same ∙ is in cc
            | false ↦ λ _ behind. no_loop_at tree all v rest behind loop
          ] refl among
    ] refl none

pub length-slots : (tree : Tree) → length (slots_in tree) ≡ length tree
length-slots [] = refl
length-slots (e ∷ tree) = ap suc (length-slots tree)

-- steps from a value lead to values, where parents are values
pub leads_among : (tree : Tree) (slots : List ℕ) → ((slot above : ℕ) → parent_in tree slot ≡ Some above → is_among slots above ≡ true) → (j z y : ℕ) → is_among slots z ≡ true → up tree j z ≡ Some y → is_among slots y ≡ true
leads_among tree slots parents zero z y among e = ap (is_among slots) (let s : Some z ≡ Some y = e in let t : y ≡ z = cc in t) ∙ among
leads_among tree slots parents (suc j) z y among e = let b = before tree j z y e in parents b.value y b.parent

pub leads_to_values : (tree : Tree) (j z y : ℕ) → IsHierarchy tree → is_among (slots_in tree) z ≡ true → up tree j z ≡ Some y → is_among (slots_in tree) y ≡ true
leads_to_values tree zero z y h among e = ap (is_among (slots_in tree)) (let s : Some z ≡ Some y = e in let t : y ≡ z = cc in t) ∙ among
leads_to_values tree (suc j) z y h among e = let b = before tree j z y e in h.parents b.value y b.parent

-- as many steps as a hierarchy has values lead nowhere
pub no_far : (tree : Tree) (z x : ℕ) → IsHierarchy tree → is_among (slots_in tree) z ≡ true → up tree (length tree) z ≡ Some x → ⊥
no_far tree z x h among far =
    let r = goes_round tree (slots_in tree) (length tree) z x (omega (arith, length-slots tree)) far (λ j y e. leads_to_values tree j z y h among e) in
    no_loop_at tree tree r.value h.no_loop (leads_to_values tree r.start z r.value h among r.leads) (above_by tree (length tree) r.value r.value r.steps r.least r.most_steps r.round)

-- a value is below another where its parent is that or below it
pub within-some : (tree : Tree) (v y x : ℕ) → IsHierarchy tree → is_among (slots_in tree) v ≡ true → parent_in tree v ≡ Some y → is_above tree v x ≡ is_within tree x y
within-some tree v y x h among parent =
    let among_y = h.parents v y parent in
    same_tests (is_above tree v x) (is_within tree x y)
    (λ t.
    let l = leads_of tree (length tree) v x t in
    elim (l.steps == 1) as (λ b. (l.steps == 1) ≡ b → is_within tree x y ≡ true) [
      | true ↦ λ one.
          let s : Some y ≡ Some x = sym parent ∙ ap (λ n. up tree n v) (sym (same_number l.steps 1 one)) ∙ l.leads in
          let same : x ≡ y = cc in
          or_left (x == y) (is_above tree y x) ((Decides-eqb x y).1 same)
      | false ↦ λ more.
          let other : l.steps ≡ 1 → ⊥ = λ s. let q = (Decides-eqb l.steps 1).1 s in cc in
          or_right (x == y) (is_above tree y x)
          (above_by tree (length tree) y x (l.steps - 1) (omega (arith, l.least, other)) (omega (arith, l.most_steps))
          (sym (up-sum tree (l.steps - 1) 1 l.steps v y (omega (arith, l.least)) parent) ∙ l.leads))
    ] refl)
    (λ t.
    elim (x == y) as (λ b. (x == y) ≡ b → (b || is_above tree y x) ≡ true → is_above tree v x ≡ true) [
      | true ↦ λ same _. above_by tree (length tree) v x 1 (omega arith) (some_value tree v among) (parent ∙ ap (λ (n : ℕ). Some n) (sym (same_number x y same)))
      | false ↦ λ _ above.
          let l = leads_of tree (length tree) y x above in
          let short : l.steps ≡ length tree → ⊥ = λ e. no_far tree y x h among_y (ap (λ n. up tree n y) (sym e) ∙ l.leads) in
          above_by tree (length tree) v x (l.steps + 1) (omega arith) (omega (arith, l.most_steps, short)) (up-add tree l.steps 1 v y parent ∙ l.leads)
    ] refl t)
  where
    some_value : (tree : Tree) (v : ℕ) → is_among (slots_in tree) v ≡ true → 1 ≤ length tree
    some_value [] v among = cc
    some_value (e ∷ tree) v among = omega arith

pub within-none : (tree : Tree) (v x : ℕ) → parent_in tree v ≡ None → is_above tree v x ≡ false
within-none tree v x none =
    elim (is_above tree v x) as (λ b. is_above tree v x ≡ b → b ≡ false) [
      | true ↦ λ t. let l = leads_of tree (length tree) v x t in
          let last : suc (l.steps - 1) ≡ l.steps = omega (arith, l.least) in
          let e : up tree (suc (l.steps - 1)) v ≡ Some x = ap (λ n. up tree n v) last ∙ l.leads in
          let n = up-none tree (l.steps - 1) v none in cc
      | false ↦ λ _. refl
    ] refl
