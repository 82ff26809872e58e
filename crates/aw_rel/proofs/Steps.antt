-- Steps from value to parent.
use Rattle.std.proofs.Common.{◌≡◌, ℕ, zero, suc, ◌+◌, ◌-◌, ◌<◌, ◌≤◌, Bool, true, false, ◌||◌, ◌==◌, Option, Some, None, refl, sym, ap, ◌∙◌, arith}
use Rattle.std.proofs.lemmas.Bool.Decides.{Decides-eqb}
use Rattle.aw_rel.specs.Hierarchy.{Tree, parent_in, is_slot, parent_above, up, is_above_within}

pub or_right : (a b : Bool) → b ≡ true → (a || b) ≡ true
or_right true b h = refl
or_right false b h = h

pub or_left : (a b : Bool) → a ≡ true → (a || b) ≡ true
or_left true b h = refl
or_left false b h = cc

pub same_number : (a b : ℕ) → (a == b) ≡ true → a ≡ b
same_number a b h = (Decides-eqb a b).0 h

pub number_itself : (a : ℕ) → (a == a) ≡ true
number_itself a = (Decides-eqb a a).1 refl

pub same_tests : (a b : Bool) → (a ≡ true → b ≡ true) → (b ≡ true → a ≡ true) → a ≡ b
same_tests true b f g = sym (f refl)
same_tests false true f g = g refl
same_tests false false f g = refl

pub slot_of_test : (slot : ℕ) (o : Option ℕ) → is_slot slot o ≡ true → o ≡ Some slot
slot_of_test slot None h = cc
slot_of_test slot (Some other) h = ap (λ (n : ℕ). Some n) (sym (same_number slot other h))

pub test_of_slot : (slot : ℕ) (o : Option ℕ) → o ≡ Some slot → is_slot slot o ≡ true
test_of_slot slot o e = ap (is_slot slot) e ∙ number_itself slot

pub some_same : (x y : ℕ) (o : Option ℕ) → o ≡ Some x → o ≡ Some y → x ≡ y
some_same x y o a b = let e : Some x ≡ Some y = sym a ∙ b in cc

pub up-add : (tree : Tree) (a b x y : ℕ) → up tree b x ≡ Some y → up tree (a + b) x ≡ up tree a y
up-add tree zero b x y e = let none : zero + b ≡ b = omega arith in ap (λ n. up tree n x) none ∙ e
up-add tree (suc a) b x y e =
    let more : suc a + b ≡ suc (a + b) = omega arith in
    ap (λ n. up tree n x) more ∙ ap (parent_above tree) (up-add tree a b x y e)

-- so it is where the two numbers of steps add up
pub up-sum : (tree : Tree) (a b n x y : ℕ) → a + b ≡ n → up tree b x ≡ Some y → up tree n x ≡ up tree a y
up-sum tree a b n x y sum e = ap (λ k. up tree k x) (sym sum) ∙ up-add tree a b x y e

-- one step less leads to a value
pub record Before (tree : Tree) (steps x y : ℕ) : Type 0 where
  pub value : ℕ
  pub leads : up tree steps x ≡ Some value
  pub parent : parent_in tree value ≡ Some y

pub before : (tree : Tree) (steps x y : ℕ) → up tree (suc steps) x ≡ Some y → Before tree steps x y
before tree steps x y e =
    elim (up tree steps x) as (λ o. up tree steps x ≡ o → parent_above tree o ≡ Some y → Before tree steps x y) [
      | None ↦ λ is none. cc
      | Some value ↦ λ is one. record { value = value; leads = is; parent = one }
    ] refl e

-- one to so many steps lead from a value to another
pub record Leads (tree : Tree) (most from slot : ℕ) : Type 0 where
  pub steps : ℕ
  pub least : 0 < steps
  pub most_steps : steps ≤ most
  pub leads : up tree steps from ≡ Some slot

pub leads_of : (tree : Tree) (most from slot : ℕ) → is_above_within tree most from slot ≡ true → Leads tree most from slot
leads_of tree zero from slot h = cc
leads_of tree (suc most) from slot h =
    elim (is_slot slot (up tree (suc most) from)) as (λ b. is_slot slot (up tree (suc most) from) ≡ b → (b || is_above_within tree most from slot) ≡ true → Leads tree (suc most) from slot) [
      | true ↦ λ is _. record { steps = suc most; least = omega arith; most_steps = omega arith; leads = slot_of_test slot (up tree (suc most) from) is }
      | false ↦ λ is rest. let l = leads_of tree most from slot rest in record { steps = l.steps; least = l.least; most_steps = omega (arith, l.most_steps); leads = l.leads }
    ] refl h

pub above_by : (tree : Tree) (most from slot steps : ℕ) → 0 < steps → steps ≤ most → up tree steps from ≡ Some slot → is_above_within tree most from slot ≡ true
above_by tree zero from slot steps least few e = absurd (omega (arith, least, few))
above_by tree (suc most) from slot steps least few e =
    elim (steps == suc most) as (λ b. (steps == suc most) ≡ b → (is_slot slot (up tree (suc most) from) || is_above_within tree most from slot) ≡ true) [
      | true ↦ λ t. or_left (is_slot slot (up tree (suc most) from)) (is_above_within tree most from slot) (test_of_slot slot (up tree (suc most) from) (ap (λ n. up tree n from) (sym (same_number steps (suc most) t)) ∙ e))
      | false ↦ λ t.
          let other : steps ≡ suc most → ⊥ = λ s. let y = (Decides-eqb steps (suc most)).1 s in cc in
          or_right (is_slot slot (up tree (suc most) from)) (is_above_within tree most from slot) (above_by tree most from slot steps least (omega (arith, few, other)) e)
    ] refl

-- what comes back to a value comes back to each value that it leads to
pub comes_back : (tree : Tree) (d m w x : ℕ) → up tree d w ≡ Some w → up tree m w ≡ Some x → up tree d x ≡ Some x
comes_back tree d m w x round leads = sym (up-add tree d m w x leads) ∙ up-sum tree m d (d + m) w w (omega arith) round ∙ leads

-- fewer steps lead to a value too
pub lower : (tree : Tree) (more steps x y : ℕ) → up tree (more + steps) x ≡ Some y → (value : ℕ) × (up tree steps x ≡ Some value)
lower tree zero steps x y e = let none : steps ≡ zero + steps = omega arith in (y, ap (λ n. up tree n x) none ∙ e)
lower tree (suc more) steps x y e =
    let next : suc (more + steps) ≡ suc more + steps = omega arith in
    let b = before tree (more + steps) x y (ap (λ n. up tree n x) next ∙ e) in
    lower tree more steps x b.value b.leads

pub lower_to : (tree : Tree) (steps high x y : ℕ) → steps ≤ high → up tree high x ≡ Some y → (value : ℕ) × (up tree steps x ≡ Some value)
lower_to tree steps high x y h e = let sum : high - steps + steps ≡ high = omega (arith, h) in lower tree (high - steps) steps x y (ap (λ n. up tree n x) sum ∙ e)

-- nothing stands above a value without a parent
pub up-none : (tree : Tree) (steps x : ℕ) → parent_in tree x ≡ None → up tree (suc steps) x ≡ None
up-none tree zero x none = none
up-none tree (suc steps) x none = ap (parent_above tree) (up-none tree steps x none)
