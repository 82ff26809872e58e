-- What is read is of the form, and at a fault the tokens before begin it.
use Rattle.std.specs.Prelude.{ℕ, ◌≡◌, ◌⊎◌, Bool, true, false, cond, List, [], ◌∷◌, ◌++◌}
use Rattle.std.proofs.Common.{refl, sym, ap, ◌∙◌, append_assoc, inl, inr}
use Rattle.dml_forms.specs.Forms.{Form, ended, token, part, last, either, but, among, goes, In, Begins}
use Rattle.dml_forms.specs.Deciding.{begins}
use Rattle.dml_forms.specs.inside.LookAhead.{Outcome, found, fault, and_then, parse}

-- ---- tests

pub one_way : (b : Bool) → (b ≡ true) ⊎ (b ≡ false)
one_way true = inl refl
one_way false = inr refl

pub chosen : {A : Type 0} (b : Bool) (x y z : A) → cond b x y ≡ z → ((b ≡ true) × (x ≡ z)) ⊎ ((b ≡ false) × (y ≡ z))
chosen true x y z e = inl (refl, e)
chosen false x y z e = inr (refl, e)

pub then_found : {X A B : Type 0} (o : Outcome X A) (f : A → List X → Outcome X B) (b : B) (rest : List X) → and_then o f ≡ found b rest → (v : A) × (mid : List X) × (o ≡ found v mid) × (f v mid ≡ found b rest)
then_found (found v mid) f b rest e = (v, mid, refl, e)
then_found (fault mid) f b rest e = absurd cc

pub then_fault : {X A B : Type 0} (o : Outcome X A) (f : A → List X → Outcome X B) (rest : List X) → and_then o f ≡ fault rest → (o ≡ fault rest) ⊎ ((v : A) × (mid : List X) × (o ≡ found v mid) × (f v mid ≡ fault rest))
then_fault (found v mid) f rest e = inr (v, mid, refl, e)
then_fault (fault mid) f rest e = inl cc

pub taken : {X B : Type 0} (b : Bool) (x : X) (xs : List X) (f : X → List X → Outcome X B) (z : Outcome X B) → and_then (cond b (found x xs) (fault (x ∷ xs))) f ≡ z → ((b ≡ true) × (f x xs ≡ z)) ⊎ ((b ≡ false) × (fault (x ∷ xs) ≡ z))
taken true x xs f z e = inl (refl, e)
taken false x xs f z e = inr (refl, e)

pub goes_front : {X : Type 0} (sort : X → ℕ) (sorts : List ℕ) (ys rest : List X) → goes sort sorts (ys ++ rest) ≡ false → goes sort sorts ys ≡ false
goes_front sort sorts [] rest e = refl
goes_front sort sorts (y ∷ ys) rest e = e

module _ {X N : Type 0} {V : N → Type 0} (sort : X → ℕ) where
  pub begins_nothing : {A : Type 0} (R : (n : N) → List X → V n → Type 0) (B : (n : N) → List X → Type 0) → ((n : N) → B n []) → (form : Form X N V A) → Begins sort R B form []
  begins_nothing R B none (ended v) = refl
  begins_nothing R B none (token sorts next) = tt
  begins_nothing R B none (part n next) = inl (none n)
  begins_nothing R B none (last n to) = none n
  begins_nothing R B none (either one other) = inl (begins_nothing R B none one)
  begins_nothing R B none (but sorts form) = (refl, begins_nothing R B none form)

module _ {X N : Type 0} {V : N → Type 0} (sort : X → ℕ) (first : N → List ℕ) where
  -- ---- what is found is there

  module _ (p : (n : N) → List X → Outcome X (V n)) (R : (n : N) → List X → V n → Type 0)
      (each : (n : N) (xs : List X) (v : V n) (rest : List X) → p n xs ≡ found v rest → (ys : List X) × (xs ≡ ys ++ rest) × R n ys v) where
    pub found_form : {A : Type 0} (form : Form X N V A) (xs : List X) (a : A) (rest : List X) → parse sort first p form xs ≡ found a rest → (ys : List X) × (xs ≡ ys ++ rest) × In sort R form ys a
    found_form (ended v) xs a rest e = ([], cc, (refl, cc))
    found_form (token sorts next) [] a rest e = absurd cc
    found_form (token sorts next) (x ∷ xs) a rest e =
        elim (taken (among (sort x) sorts) x xs (λ x rest. parse sort first p (next x) rest) (found a rest) e) [
          | inl (passes, at) ↦ let (ys, same, inside) = found_form (next x) xs a rest at in (x ∷ ys, ap (λ (l : List X). x ∷ l) same, (passes, inside))
          | inr (fails, at) ↦ absurd cc
        ]
    found_form (part n next) xs a rest e =
        let (v, mid, at, behind) = then_found (p n xs) (λ v rest. parse sort first p (next v) rest) a rest e in
        let (ys, same, one) = each n xs v mid at in
        let (zs, same_too, inside) = found_form (next v) mid a rest behind in
        (ys ++ zs, same ∙ ap (λ (l : List X). ys ++ l) same_too ∙ sym (append_assoc ys zs rest), (ys, zs, v, refl, one, inside))
    found_form (last n to) xs a rest e =
        let (v, mid, at, behind) = then_found (p n xs) (λ v rest. found (to v) rest) a rest e in
        let (ys, same, one) = each n xs v mid at in
        (ys, same ∙ ap (λ (l : List X). ys ++ l) cc, (v, one, cc))
    found_form (either one other) xs a rest e =
        elim (chosen (goes sort (begins first one) xs) (parse sort first p one xs) (parse sort first p other xs) (found a rest) e) [
          | inl (goes_so, at) ↦ let (ys, same, inside) = found_form one xs a rest at in (ys, same, inl inside)
          | inr (goes_not, at) ↦ let (ys, same, inside) = found_form other xs a rest at in (ys, same, inr inside)
        ]
    found_form (but sorts form) xs a rest e =
        elim (chosen (goes sort sorts xs) (fault xs) (parse sort first p form xs) (found a rest) e) [
          | inl (stop, at) ↦ absurd cc
          | inr (free, at) ↦ let (ys, same, inside) = found_form form xs a rest at in (ys, same, (goes_front sort sorts ys rest (rw same at free), inside))
        ]

    -- ---- a fault is behind tokens that begin the form

    module _ (B : (n : N) → List X → Type 0) (lost : (n : N) (xs rest : List X) → p n xs ≡ fault rest → (ys : List X) × (xs ≡ ys ++ rest) × B n ys) (none : (n : N) → B n []) where
      pub fault_form : {A : Type 0} (form : Form X N V A) (xs rest : List X) → parse sort first p form xs ≡ fault rest → (ys : List X) × (xs ≡ ys ++ rest) × Begins sort R B form ys
      fault_form (ended v) xs rest e = absurd cc
      fault_form (token sorts next) [] rest e = ([], cc, tt)
      fault_form (token sorts next) (x ∷ xs) rest e =
          elim (taken (among (sort x) sorts) x xs (λ x rest. parse sort first p (next x) rest) (fault rest) e) [
            | inl (passes, at) ↦ let (ys, same, inside) = fault_form (next x) xs rest at in (x ∷ ys, ap (λ (l : List X). x ∷ l) same, (passes, inside))
            | inr (fails, at) ↦ ([], cc, tt)
          ]
      fault_form (part n next) xs rest e =
          elim (then_fault (p n xs) (λ v rest. parse sort first p (next v) rest) rest e) [
            | inl at ↦ let (ys, same, one) = lost n xs rest at in (ys, same, inl one)
            | inr (v, mid, at, behind) ↦
                let (ys, same, one) = each n xs v mid at in
                let (zs, same_too, inside) = fault_form (next v) mid rest behind in
                (ys ++ zs, same ∙ ap (λ (l : List X). ys ++ l) same_too ∙ sym (append_assoc ys zs rest), inr (ys, zs, v, refl, one, inside))
          ]
      fault_form (last n to) xs rest e =
          elim (then_fault (p n xs) (λ v rest. found (to v) rest) rest e) [
            | inl at ↦ lost n xs rest at
            | inr (v, mid, at, behind) ↦ absurd cc
          ]
      fault_form (either one other) xs rest e =
          elim (chosen (goes sort (begins first one) xs) (parse sort first p one xs) (parse sort first p other xs) (fault rest) e) [
            | inl (goes_so, at) ↦ let (ys, same, inside) = fault_form one xs rest at in (ys, same, inl inside)
            | inr (goes_not, at) ↦ let (ys, same, inside) = fault_form other xs rest at in (ys, same, inr inside)
          ]
      fault_form (but sorts form) xs rest e =
          elim (chosen (goes sort sorts xs) (fault xs) (parse sort first p form xs) (fault rest) e) [
            | inl (stop, at) ↦ ([], cc, (refl, begins_nothing sort R B none form))
            | inr (free, at) ↦ let (ys, same, inside) = fault_form form xs rest at in (ys, same, (goes_front sort sorts ys rest (rw same at free), inside))
          ]
