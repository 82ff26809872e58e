-- A greater height derives no less, and each front of what begins a part begins it.
use Rattle.std.specs.Prelude.{ℕ, zero, suc, ◌≡◌, ◌⊎◌, List, [], ◌∷◌, ◌++◌}
use Rattle.std.proofs.Common.{refl, sym, inl, inr, subst}
use Rattle.dml_forms.specs.Forms.{Form, ended, token, part, last, either, but, In, Begins, Derives, Starts}
use Rattle.dml_forms.proofs.Found.{goes_front}
use Rattle.dml_forms.proofs.Parts.{starts_nothing, derived_starts}

-- one of two lists that go on to the same list is a front of the other
split : {X : Type 0} (ys zs us vs : List X) → ys ++ zs ≡ us ++ vs → ((ms : List X) × (us ≡ ys ++ ms)) ⊎ ((ms : List X) × (ys ≡ us ++ ms) × (vs ≡ ms ++ zs))
split [] zs us vs same = inl (us, refl)
split (y ∷ ys) zs [] vs same = inr (y ∷ ys, refl, sym same)
split (y ∷ ys) zs (u ∷ us) vs same =
    elim (split ys zs us vs cc) [
      | inl (ms, is) ↦ inl (ms, cc)
      | inr (ms, is, more) ↦ inr (ms, cc, more)
    ]

no_front : {X : Type 0} (ys zs : List X) → ys ++ zs ≡ [] → ys ≡ []
no_front [] zs e = refl
no_front (y ∷ ys) zs e = absurd cc

module _ {X N : Type 0} {V : N → Type 0} (sort : X → ℕ) where
  module _ (R : (n : N) → List X → V n → Type 0) (B : (n : N) → List X → Type 0) (none : (n : N) → B n []) (begun : (n : N) (ys : List X) (v : V n) → R n ys v → B n ys)
      (fronts : (n : N) (ys zs : List X) → B n (ys ++ zs) → B n ys) where
    front_form : {A : Type 0} (form : Form X N V A) (ys zs : List X) → Begins sort R B form (ys ++ zs) → Begins sort R B form ys
    front_form (ended v) ys zs b = no_front ys zs b
    front_form (token sorts next) [] zs b = tt
    front_form (token sorts next) (y ∷ ys) zs (passes, b) = (passes, front_form (next y) ys zs b)
    front_form (part n next) ys zs (inl b) = inl (fronts n ys zs b)
    front_form (part n next) ys zs (inr (us, vs, v, same, one, b)) =
        elim (split ys zs us vs same) [
          | inl (ms, is) ↦ inl (fronts n ys ms (begun n (ys ++ ms) v (subst (λ (l : List X). R n l v) is one)))
          | inr (ms, is, more) ↦ inr (us, ms, v, is, one, front_form (next v) ms zs (subst (λ (l : List X). Begins sort R B (next v) l) more b))
        ]
    front_form (last n to) ys zs b = fronts n ys zs b
    front_form (either one other) ys zs (inl b) = inl (front_form one ys zs b)
    front_form (either one other) ys zs (inr b) = inr (front_form other ys zs b)
    front_form (but sorts form) ys zs (free, b) = (goes_front sort sorts ys zs free, front_form form ys zs b)

  module _ (R Q : (n : N) → List X → V n → Type 0) (more : (n : N) (ys : List X) (v : V n) → R n ys v → Q n ys v) where
    in_more : {A : Type 0} (form : Form X N V A) (ys : List X) (a : A) → In sort R form ys a → In sort Q form ys a
    in_more (ended v) ys a i = i
    in_more (token sorts next) [] a i = absurd i
    in_more (token sorts next) (y ∷ ys) a (passes, i) = (passes, in_more (next y) ys a i)
    in_more (part n next) ys a (us, vs, v, same, one, i) = (us, vs, v, same, more n us v one, in_more (next v) vs a i)
    in_more (last n to) ys a (v, one, same) = (v, more n ys v one, same)
    in_more (either one other) ys a i = elim i [ inl here ↦ inl (in_more one ys a here) | inr there ↦ inr (in_more other ys a there) ]
    in_more (but sorts form) ys a (free, i) = (free, in_more form ys a i)

    module _ (B C : (n : N) → List X → Type 0) (more_too : (n : N) (ys : List X) → B n ys → C n ys) where
      begins_more : {A : Type 0} (form : Form X N V A) (ys : List X) → Begins sort R B form ys → Begins sort Q C form ys
      begins_more (ended v) ys b = b
      begins_more (token sorts next) [] b = tt
      begins_more (token sorts next) (y ∷ ys) (passes, b) = (passes, begins_more (next y) ys b)
      begins_more (part n next) ys (inl b) = inl (more_too n ys b)
      begins_more (part n next) ys (inr (us, vs, v, same, one, b)) = inr (us, vs, v, same, more n us v one, begins_more (next v) vs b)
      begins_more (last n to) ys b = more_too n ys b
      begins_more (either one other) ys b = elim b [ inl here ↦ inl (begins_more one ys here) | inr there ↦ inr (begins_more other ys there) ]
      begins_more (but sorts form) ys (free, b) = (free, begins_more form ys b)

module _ {X N : Type 0} {V : N → Type 0} (sort : X → ℕ) (rule : (n : N) → Form X N V (V n)) where
  pub derives_more : (h : ℕ) (n : N) (xs : List X) (v : V n) → Derives sort rule h n xs v → Derives sort rule (suc h) n xs v
  derives_more zero n xs v d = absurd d
  derives_more (suc h) n xs v d = in_more sort (Derives sort rule h) (Derives sort rule (suc h)) (derives_more h) (rule n) xs v d

  pub starts_more : (h : ℕ) (n : N) (xs : List X) → Starts sort rule h n xs → Starts sort rule (suc h) n xs
  starts_more zero n [] d = starts_nothing sort rule 1 n
  starts_more zero n (x ∷ xs) d = absurd cc
  starts_more (suc h) n xs d =
      begins_more sort (Derives sort rule h) (Derives sort rule (suc h)) (derives_more h) (Starts sort rule h) (Starts sort rule (suc h)) (starts_more h) (rule n) xs d

  pub fronts_start : (h : ℕ) (n : N) (xs ys : List X) → Starts sort rule h n (xs ++ ys) → Starts sort rule h n xs
  fronts_start zero n xs ys d = no_front xs ys d
  fronts_start (suc h) n xs ys d =
      front_form sort (Derives sort rule h) (Starts sort rule h) (starts_nothing sort rule h) (derived_starts sort rule h) (fronts_start h) (rule n) xs ys d
