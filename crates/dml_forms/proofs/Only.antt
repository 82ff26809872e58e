-- Where the next token decides each choice, what is of a form is read, and nothing past what begins it.
use Rattle.std.specs.Prelude.{ℕ, ◌≡◌, ◌≤◌, ◌⊎◌, Bool, true, false, not, nat_eq, List, [], ◌∷◌, ◌++◌, length}
use Rattle.std.proofs.Common.{refl, sym, ap, ◌∙◌, append_assoc, append-nil, arith, inl, inr, subst, eqb-true}
use Rattle.std.proofs.lemmas.Bool.{and_parts}
use Rattle.dml_forms.specs.Forms.{Form, ended, token, part, last, either, but, among, goes, In, Begins}
use Rattle.dml_forms.specs.Deciding.{none_among, each_among, follows, without, begins, empty, Fits}
use Rattle.dml_forms.specs.inside.LookAhead.{Outcome, found, fault, and_then, left, parse}
use Rattle.dml_forms.proofs.Found.{one_way}

-- ---- sets of sorts

pub among_each : (k : ℕ) (xs ys : List ℕ) → each_among xs ys ≡ true → among k xs ≡ true → among k ys ≡ true
among_each k [] ys each here = absurd cc
among_each k (x ∷ xs) ys each here =
    let (one, more) = and_parts (among x ys) (each_among xs ys) each in
    elim (one_way (nat_eq k x)) [
      | inl same ↦ let is : k ≡ x = eqb-true k x same in rw is one
      | inr differs ↦ among_each k xs ys more (rw differs at here)
    ]

among_none : (k : ℕ) (xs ys : List ℕ) → none_among xs ys ≡ true → among k xs ≡ true → among k ys ≡ false
among_none k [] ys none here = absurd cc
among_none k (x ∷ xs) ys none here =
    let (one, more) = and_parts (not (among x ys)) (none_among xs ys) none in
    elim (one_way (nat_eq k x)) [
      | inl same ↦ let is : k ≡ x = eqb-true k x same in rw is (elim (one_way (among x ys)) [ inl is_in ↦ absurd (let r = rw is_in at one in cc) | inr is_out ↦ is_out ])
      | inr differs ↦ among_none k xs ys more (rw differs at here)
    ]

pub implied : (a b : Bool) → follows a b ≡ true → a ≡ true → b ≡ true
implied true b e h = e
implied false b e h = absurd cc

among_append : (k : ℕ) (xs ys : List ℕ) → (among k xs ≡ true) ⊎ (among k ys ≡ true) → among k (xs ++ ys) ≡ true
among_append k [] ys h = elim h [ inl here ↦ absurd cc | inr there ↦ there ]
among_append k (x ∷ xs) ys h =
    elim (one_way (nat_eq k x)) [
      | inl same ↦ rw same refl
      | inr differs ↦ rw differs (among_append k xs ys (elim h [ inl here ↦ inl (rw differs at here) | inr there ↦ inr there ]))
    ]

among_without : (k : ℕ) (sorts xs : List ℕ) → among k sorts ≡ false → among k xs ≡ true → among k (without sorts xs) ≡ true
among_without k sorts [] out here = here
among_without k sorts (x ∷ xs) out here =
    elim (one_way (nat_eq k x)) [
      | inl same ↦ let is : k ≡ x = eqb-true k x same in let away : among x sorts ≡ false = rw is at out in rw (away, same) refl
      | inr differs ↦
          let more = among_without k sorts xs out (rw differs at here) in
          elim (one_way (among x sorts)) [ inl taken ↦ rw taken more | inr kept ↦ rw (kept, differs) more ]
    ]

-- what is among the first isn't among the second, and the other way
among_none_back : (k : ℕ) (xs ys : List ℕ) → none_among xs ys ≡ true → among k ys ≡ true → among k xs ≡ false
among_none_back k xs ys none there =
    elim (one_way (among k xs)) [
      | inl here ↦ let out = among_none k xs ys none here in absurd cc
      | inr out ↦ out
    ]

module _ {X : Type 0} (sort : X → ℕ) where
  goes_not : (xs ys : List ℕ) (rest : List X) → each_among xs ys ≡ true → goes sort ys rest ≡ false → goes sort xs rest ≡ false
  goes_not xs ys [] each h = refl
  goes_not xs ys (x ∷ rest) each h =
      elim (one_way (among (sort x) xs)) [
        | inl here ↦ let there = among_each (sort x) xs ys each here in absurd cc
        | inr out ↦ out
      ]

-- ---- no more tokens are left than there were

pub behind_part : {X A B : Type 0} (o : Outcome X A) (f : A → List X → Outcome X B) → ((v : A) (rest : List X) → left (f v rest) ≤ length rest) → left (and_then o f) ≤ left o
behind_part (found v rest) f each = each v rest
behind_part (fault rest) f each = omega arith

module _ {X N : Type 0} {V : N → Type 0} (sort : X → ℕ) (first : N → List ℕ) (p : (n : N) → List X → Outcome X (V n)) (shrinks : (n : N) (xs : List X) → left (p n xs) ≤ length xs) where
  pub shrinks_form : {A : Type 0} (form : Form X N V A) (xs : List X) → left (parse sort first p form xs) ≤ length xs
  shrinks_form (ended v) xs = omega arith
  shrinks_form (token sorts next) [] = omega arith
  shrinks_form (token sorts next) (x ∷ xs) =
      elim (one_way (among (sort x) sorts)) [
        | inl passes ↦ rw passes (let h = shrinks_form (next x) xs in omega arith)
        | inr fails ↦ rw fails (omega arith)
      ]
  shrinks_form (part n next) xs =
      let h = behind_part (p n xs) (λ v rest. parse sort first p (next v) rest) (λ v rest. shrinks_form (next v) rest) in
      let k = shrinks n xs in
      omega arith
  shrinks_form (last n to) xs =
      let h = behind_part (p n xs) (λ v rest. found (to v) rest) (λ v rest. omega arith) in
      let k = shrinks n xs in
      omega arith
  shrinks_form (either one other) xs =
      elim (one_way (goes sort (begins first one) xs)) [
        | inl so ↦ rw so (shrinks_form one xs)
        | inr so ↦ rw so (shrinks_form other xs)
      ]
  shrinks_form (but sorts form) xs =
      elim (one_way (goes sort sorts xs)) [
        | inl so ↦ rw so (omega arith)
        | inr so ↦ rw so (shrinks_form form xs)
      ]

module _ {X N : Type 0} {V : N → Type 0} (sort : X → ℕ) (first cont : N → List ℕ) (nullable : N → Bool) where
  module _ (R : (n : N) → List X → V n → Type 0)
      (heads : (n : N) (x : X) (ys : List X) (v : V n) → R n (x ∷ ys) v → among (sort x) (first n) ≡ true)
      (full : (n : N) (v : V n) → R n [] v → nullable n ≡ true) where
    pub in_begins : {A : Type 0} (K : List ℕ) (form : Form X N V A) (x : X) (xs : List X) (a : A) → Fits first cont nullable K form → In sort R form (x ∷ xs) a → among (sort x) (begins first form) ≡ true
    in_begins K (ended v) x xs a fits (none, same) = absurd cc
    in_begins K (token sorts next) x xs a fits (passes, inside) = passes
    in_begins K (part n next) x xs a (solid, fits) ([], zs, v, same, one, inside) = let e = full n v one in absurd cc
    in_begins K (part n next) x xs a (solid, fits) (y ∷ ys, zs, v, same, one, inside) = let is : x ≡ y = cc in rw is (heads n y ys v one)
    in_begins K (last n to) x xs a fits (v, one, same) = heads n x xs v one
    in_begins K (either one other) x xs a (solid, apart, after, fits, fits_too) inside =
        among_append (sort x) (begins first one) (begins first other) (elim inside [
          | inl here ↦ inl (in_begins K one x xs a fits here)
          | inr there ↦ inr (in_begins K other x xs a fits_too there)
        ])
    in_begins K (but sorts form) x xs a (solid, fits) (free, inside) = among_without (sort x) sorts (begins first form) free (in_begins K form x xs a fits inside)

    pub in_empty : {A : Type 0} (K : List ℕ) (form : Form X N V A) (a : A) → Fits first cont nullable K form → In sort R form [] a → empty first cont nullable form ≡ true
    in_empty K (ended v) a fits inside = refl
    in_empty K (token sorts next) a fits inside = absurd inside
    in_empty K (part n next) a (solid, fits) ([], zs, v, same, one, inside) = let e = full n v one in absurd cc
    in_empty K (part n next) a (solid, fits) (y ∷ ys, zs, v, same, one, inside) = absurd cc
    in_empty K (last n to) a fits (v, one, same) = full n v one
    in_empty K (either one other) a (solid, apart, after, fits, fits_too) inside =
        elim inside [
          | inl here ↦ let e = in_empty K one a fits here in absurd cc
          | inr there ↦ in_empty K other a fits_too there
        ]
    in_empty K (but sorts form) a (solid, fits) (free, inside) = in_empty K form a fits inside

    module _ (B : (n : N) → List X → Type 0) (heads_too : (n : N) (x : X) (ys : List X) → B n (x ∷ ys) → among (sort x) (first n) ≡ true) where
      pub begun_begins : {A : Type 0} (K : List ℕ) (form : Form X N V A) (x : X) (xs : List X) → Fits first cont nullable K form → Begins sort R B form (x ∷ xs) → among (sort x) (begins first form) ≡ true
      begun_begins K (ended v) x xs fits none = absurd cc
      begun_begins K (token sorts next) x xs fits (passes, inside) = passes
      begun_begins K (part n next) x xs fits (inl begun) = heads_too n x xs begun
      begun_begins K (part n next) x xs (solid, fits) (inr ([], zs, v, same, one, inside)) = let e = full n v one in absurd cc
      begun_begins K (part n next) x xs (solid, fits) (inr (y ∷ ys, zs, v, same, one, inside)) = let is : x ≡ y = cc in rw is (heads n y ys v one)
      begun_begins K (last n to) x xs fits begun = heads_too n x xs begun
      begun_begins K (either one other) x xs (solid, apart, after, fits, fits_too) inside =
          among_append (sort x) (begins first one) (begins first other) (elim inside [
            | inl here ↦ inl (begun_begins K one x xs fits here)
            | inr there ↦ inr (begun_begins K other x xs fits_too there)
          ])
      begun_begins K (but sorts form) x xs (solid, fits) (free, inside) = among_without (sort x) sorts (begins first form) free (begun_begins K form x xs fits inside)

    -- what comes behind a part doesn't go on with it
    stops : {A : Type 0} (K : List ℕ) (n : N) (form : Form X N V A) (zs rest : List X) (a : A) → none_among (begins first form) (cont n) ≡ true → follows (empty first cont nullable form) (each_among (cont n) K) ≡ true
        → Fits first cont nullable K form → In sort R form zs a → goes sort K rest ≡ false → goes sort (cont n) (zs ++ rest) ≡ false
    stops K n form [] rest a apart after fits inside stop =
        goes_not sort (cont n) K rest (implied (empty first cont nullable form) (each_among (cont n) K) after (in_empty K form a fits inside)) stop
    stops K n form (z ∷ zs) rest a apart after fits inside stop = among_none (sort z) (begins first form) (cont n) apart (in_begins K form z zs a fits inside)

    -- ---- what is there is found

    module _ (p : (n : N) → List X → Outcome X (V n)) (each : (n : N) (ys : List X) (v : V n) (rest : List X) → R n ys v → goes sort (cont n) rest ≡ false → p n (ys ++ rest) ≡ found v rest) where
      pub form_found : {A : Type 0} (K : List ℕ) (form : Form X N V A) (ys : List X) (a : A) (rest : List X) → Fits first cont nullable K form → In sort R form ys a → goes sort K rest ≡ false → parse sort first p form (ys ++ rest) ≡ found a rest
      form_found K (ended v) [] a rest fits (none, same) stop = ap (λ w. found w rest) same
      form_found K (ended v) (y ∷ ys) a rest fits (none, same) stop = absurd cc
      form_found K (token sorts next) [] a rest fits inside stop = absurd inside
      form_found K (token sorts next) (y ∷ ys) a rest fits (passes, inside) stop = rw passes (form_found K (next y) ys a rest (fits y) inside stop)
      form_found K (part n next) ys a rest (solid, fits) (us, zs, v, same, one, inside) stop =
          let (apart, after, fit) = fits v in
          let whole : ys ++ rest ≡ us ++ (zs ++ rest) = ap (λ (l : List X). l ++ rest) same ∙ append_assoc us zs rest in
          let at : p n (us ++ (zs ++ rest)) ≡ found v (zs ++ rest) = each n us v (zs ++ rest) one (stops K n (next v) zs rest a apart after fit inside stop) in
          rw (whole, at) (form_found K (next v) zs a rest fit inside stop)
      form_found K (last n to) ys a rest fits (v, one, same) stop =
          let at : p n (ys ++ rest) ≡ found v rest = each n ys v rest one (goes_not sort (cont n) K rest fits stop) in
          rw at (ap (λ w. found w rest) same)
      form_found K (either one other) [] a rest (solid, apart, after, fits, fits_too) inside stop =
          elim inside [
            | inl here ↦ let e = in_empty K one a fits here in absurd cc
            | inr there ↦
                let is_out : goes sort (begins first one) rest ≡ false = goes_not sort (begins first one) K rest (implied (empty first cont nullable other) (each_among (begins first one) K) after (in_empty K other a fits_too there)) stop in
                rw is_out (form_found K other [] a rest fits_too there stop)
          ]
      form_found K (either one other) (y ∷ ys) a rest (solid, apart, after, fits, fits_too) inside stop =
          elim inside [
            | inl here ↦ rw (in_begins K one y ys a fits here) (form_found K one (y ∷ ys) a rest fits here stop)
            | inr there ↦ rw (among_none_back (sort y) (begins first one) (begins first other) apart (in_begins K other y ys a fits_too there)) (form_found K other (y ∷ ys) a rest fits_too there stop)
          ]
      -- ---- tokens that begin the form are read

      form_found K (but sorts form) [] a rest (solid, fits) (free, inside) stop = let e = in_empty K form a fits inside in absurd cc
      form_found K (but sorts form) (y ∷ ys) a rest (solid, fits) (free, inside) stop = rw free (form_found K form (y ∷ ys) a rest fits inside stop)

      module _ (shrinks : (n : N) (xs : List X) → left (p n xs) ≤ length xs) where
        module _ (B : (n : N) → List X → Type 0) (heads_too : (n : N) (x : X) (ys : List X) → B n (x ∷ ys) → among (sort x) (first n) ≡ true)
            (begun : (n : N) (ys : List X) (v : V n) → R n ys v → B n ys) (each_begun : (n : N) (ys rest : List X) → B n ys → left (p n (ys ++ rest)) ≤ length rest) where
          pub begun_read : {A : Type 0} (K : List ℕ) (form : Form X N V A) (ys rest : List X) → Fits first cont nullable K form → Begins sort R B form ys → left (parse sort first p form (ys ++ rest)) ≤ length rest
          begun_read K (ended v) [] rest fits none = omega arith
          begun_read K (ended v) (y ∷ ys) rest fits none = absurd cc
          begun_read K (token sorts next) [] rest fits inside = shrinks_form sort first p shrinks (token sorts next) rest
          begun_read K (token sorts next) (y ∷ ys) rest fits (passes, inside) = rw passes (begun_read K (next y) ys rest (fits y) inside)
          begun_read K (part n next) ys rest fits (inl so) =
              let h = behind_part (p n (ys ++ rest)) (λ v rest. parse sort first p (next v) rest) (λ v rest. shrinks_form sort first p shrinks (next v) rest) in
              let k = each_begun n ys rest so in
              omega arith
          begun_read K (part n next) ys rest (solid, fits) (inr (us, [], v, same, one, inside)) =
              let h = behind_part (p n (ys ++ rest)) (λ v rest. parse sort first p (next v) rest) (λ v rest. shrinks_form sort first p shrinks (next v) rest) in
              let whole : us ≡ ys = sym (same ∙ append-nil us) in
              let k = each_begun n ys rest (begun n ys v (subst (λ (l : List X). R n l v) whole one)) in
              omega arith
          begun_read K (part n next) ys rest (solid, fits) (inr (us, z ∷ zs, v, same, one, inside)) =
              let (apart, after, fit) = fits v in
              let whole : ys ++ rest ≡ us ++ ((z ∷ zs) ++ rest) = ap (λ (l : List X). l ++ rest) same ∙ append_assoc us (z ∷ zs) rest in
              let stop : goes sort (cont n) ((z ∷ zs) ++ rest) ≡ false = among_none (sort z) (begins first (next v)) (cont n) apart (begun_begins B heads_too K (next v) z zs fit inside) in
              let at : p n (us ++ ((z ∷ zs) ++ rest)) ≡ found v ((z ∷ zs) ++ rest) = each n us v ((z ∷ zs) ++ rest) one stop in
              rw (whole, at) (begun_read K (next v) (z ∷ zs) rest fit inside)
          begun_read K (last n to) ys rest fits so =
              let h = behind_part (p n (ys ++ rest)) (λ v rest. found (to v) rest) (λ v rest. omega arith) in
              let k = each_begun n ys rest so in
              omega arith
          begun_read K (either one other) [] rest fits inside = shrinks_form sort first p shrinks (either one other) rest
          begun_read K (either one other) (y ∷ ys) rest (solid, apart, after, fits, fits_too) inside =
              elim inside [
                | inl here ↦ rw (begun_begins B heads_too K one y ys fits here) (begun_read K one (y ∷ ys) rest fits here)
                | inr there ↦ rw (among_none_back (sort y) (begins first one) (begins first other) apart (begun_begins B heads_too K other y ys fits_too there)) (begun_read K other (y ∷ ys) rest fits_too there)
              ]
          begun_read K (but sorts form) [] rest fits inside = shrinks_form sort first p shrinks (but sorts form) rest
          begun_read K (but sorts form) (y ∷ ys) rest (solid, fits) (free, inside) = rw free (begun_read K form (y ∷ ys) rest fits inside)
