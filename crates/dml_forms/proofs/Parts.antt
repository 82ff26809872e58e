-- The parts of a grammar, each with its own rule.
use Rattle.std.specs.Prelude.{ℕ, zero, suc, ◌≡◌, ◌+◌, ◌*◌, ◌<◌, ◌≤◌, Bool, true, false, List, [], ◌∷◌, ◌++◌, length}
use Rattle.std.proofs.Common.{refl, sym, ap, ◌∙◌, append_assoc, append-nil, arith, inl, inr, ltb-true, length-append}
use Rattle.dml_forms.specs.Forms.{Form, ended, token, part, last, either, but, among, goes, In, Begins, Derives, Starts}
use Rattle.dml_forms.specs.Deciding.{begins, empty, Fits, Ranked, Fit}
use Rattle.dml_forms.specs.inside.LookAhead.{Outcome, found, fault, and_then, left, parse, parse_by, reading}
use Rattle.dml_forms.proofs.Found.{one_way, found_form, fault_form, begins_nothing}
use Rattle.dml_forms.proofs.Only.{implied, among_each, in_begins, in_empty, begun_begins, form_found, shrinks_form, begun_read}

then_same : {X A B : Type 0} (o : Outcome X A) (f g : A → List X → Outcome X B) → ((v : A) (rest : List X) → o ≡ found v rest → f v rest ≡ g v rest) → and_then o f ≡ and_then o g
then_same (found v rest) f g each = each v rest refl
then_same (fault rest) f g each = refl

module _ {X N : Type 0} {V : N → Type 0} (sort : X → ℕ) where
  in_begun : {A : Type 0} (R : (n : N) → List X → V n → Type 0) (B : (n : N) → List X → Type 0) → ((n : N) (ys : List X) (v : V n) → R n ys v → B n ys) → (form : Form X N V A) (ys : List X) (a : A) → In sort R form ys a → Begins sort R B form ys
  in_begun R B each (ended v) ys a (none, same) = none
  in_begun R B each (token sorts next) [] a inside = tt
  in_begun R B each (token sorts next) (y ∷ ys) a (passes, inside) = (passes, in_begun R B each (next y) ys a inside)
  in_begun R B each (part n next) ys a (us, zs, v, same, one, inside) = inr (us, zs, v, same, one, in_begun R B each (next v) zs a inside)
  in_begun R B each (last n to) ys a (v, one, same) = each n ys v one
  in_begun R B each (either one other) ys a inside = elim inside [ inl here ↦ inl (in_begun R B each one ys a here) | inr there ↦ inr (in_begun R B each other ys a there) ]
  in_begun R B each (but sorts form) ys a (free, inside) = (free, in_begun R B each form ys a inside)

module _ {X N : Type 0} {V : N → Type 0} (sort : X → ℕ) (rule : (n : N) → Form X N V (V n)) where
  pub starts_nothing : (h : ℕ) (n : N) → Starts sort rule h n []
  starts_nothing zero n = refl
  starts_nothing (suc h) n = begins_nothing sort (Derives sort rule h) (Starts sort rule h) (starts_nothing h) (rule n)

  pub derived_starts : (h : ℕ) (n : N) (ys : List X) (v : V n) → Derives sort rule h n ys v → Starts sort rule h n ys
  derived_starts zero n ys v d = absurd d
  derived_starts (suc h) n ys v d = in_begun sort (Derives sort rule h) (Starts sort rule h) (derived_starts h) (rule n) ys v d

module _ {X N : Type 0} {V : N → Type 0} (sort : X → ℕ) (rule : (n : N) → Form X N V (V n)) (first cont : N → List ℕ) (nullable : N → Bool) (rank : N → ℕ)
    (fit : (n : N) → Fit rule first cont nullable rank n) where
  tells : (h : ℕ) → ((n : N) (x : X) (ys : List X) (v : V n) → Derives sort rule h n (x ∷ ys) v → among (sort x) (first n) ≡ true)
      × ((n : N) (v : V n) → Derives sort rule h n [] v → nullable n ≡ true)
  tells zero = (λ n x ys v d. absurd d, λ n v d. absurd d)
  tells (suc h) =
      let (heads, full) = tells h in (
        λ n x ys v d. among_each (sort x) (begins first (rule n)) (first n) (fit n).covers (in_begins sort first cont nullable (Derives sort rule h) heads full (cont n) (rule n) x ys v (fit n).fits d),
        λ n v d. implied (empty first cont nullable (rule n)) (nullable n) (fit n).full (in_empty sort first cont nullable (Derives sort rule h) heads full (cont n) (rule n) v (fit n).fits d),
      )

  starts_tell : (h : ℕ) (n : N) (x : X) (ys : List X) → Starts sort rule h n (x ∷ ys) → among (sort x) (first n) ≡ true
  starts_tell zero n x ys d = absurd cc
  starts_tell (suc h) n x ys d =
      let (heads, full) = tells h in
      among_each (sort x) (begins first (rule n)) (first n) (fit n).covers
      (begun_begins sort first cont nullable (Derives sort rule h) heads full (Starts sort rule h) (starts_tell h) (cont n) (rule n) x ys (fit n).fits d)

  found_by : (k : ℕ) (n : N) (xs : List X) (v : V n) (rest : List X) → parse_by sort first rule k n xs ≡ found v rest → (ys : List X) × (xs ≡ ys ++ rest) × Derives sort rule k n ys v
  found_by zero n xs v rest e = absurd cc
  found_by (suc k) n xs v rest e = found_form sort first (parse_by sort first rule k) (Derives sort rule k) (found_by k) (rule n) xs v rest e

  fault_by : (k : ℕ) (n : N) (xs rest : List X) → parse_by sort first rule k n xs ≡ fault rest → (ys : List X) × (xs ≡ ys ++ rest) × Starts sort rule k n ys
  fault_by zero n xs rest e = ([], cc, refl)
  fault_by (suc k) n xs rest e = fault_form sort first (parse_by sort first rule k) (Derives sort rule k) (found_by k) (Starts sort rule k) (fault_by k) (starts_nothing sort rule k) (rule n) xs rest e

  shorter : (k : ℕ) (n : N) (xs : List X) (v : V n) (rest : List X) → nullable n ≡ false → parse_by sort first rule k n xs ≡ found v rest → length rest < length xs
  shorter k n xs v rest solid e =
      let (ys, same, d) = found_by k n xs v rest e in
      by ys same d
    where
      by : (ys : List X) → xs ≡ ys ++ rest → Derives sort rule k n ys v → length rest < length xs
      by [] same d = let e = (tells k).1 n v d in absurd cc
      by (y ∷ ys) same d = let size = ap length same in let sum = length-append ys rest in omega arith

  -- two ways to read the parts that agree on what has less left
  agree_form : (p q : (n : N) → List X → Outcome X (V n)) (m : ℕ) → ((n : N) (xs : List X) → 32 * length xs + rank n < m → p n xs ≡ q n xs)
      → ((n : N) (xs : List X) (v : V n) (rest : List X) → nullable n ≡ false → q n xs ≡ found v rest → length rest < length xs)
      → {A : Type 0} (K : List ℕ) (r : ℕ) (form : Form X N V A) (xs : List X) → Fits first cont nullable K form → Ranked rank r form → 32 * length xs + r ≤ m → parse sort first p form xs ≡ parse sort first q form xs
  agree_form p q m agree short K r (ended v) xs fits ranked within = refl
  agree_form p q m agree short K r (token sorts next) [] fits ranked within = refl
  agree_form p q m agree short K r (token sorts next) (x ∷ xs) fits ranked within =
      let behind = agree_form p q m agree short K 32 (next x) xs (fits x) (ranked x) (omega arith) in
      elim (one_way (among (sort x) sorts)) [ inl passes ↦ rw passes behind | inr fails ↦ rw fails refl ]
  agree_form p q m agree short K r (part n next) xs (solid, fits) (low, ranked) within =
      let lower : rank n < r = ltb-true (rank n) r low in
      let here : p n xs ≡ q n xs = agree n xs (omega arith) in
      rw here (then_same (q n xs) (λ v rest. parse sort first p (next v) rest) (λ v rest. parse sort first q (next v) rest)
      (λ v rest at. let s : length rest < length xs = short n xs v rest solid at in agree_form p q m agree short K 32 (next v) rest ((fits v).2) (ranked v) (omega arith)))
  agree_form p q m agree short K r (last n to) xs fits low within =
      let lower : rank n < r = ltb-true (rank n) r low in
      let here : p n xs ≡ q n xs = agree n xs (omega arith) in rw here refl
  agree_form p q m agree short K r (either one other) xs (solid, apart, after, fits, fits_too) (ranked, ranked_too) within =
      let a = agree_form p q m agree short K r one xs fits ranked within in
      let b = agree_form p q m agree short K r other xs fits_too ranked_too within in
      rw (a, b) refl
  agree_form p q m agree short K r (but sorts form) xs (solid, fits) ranked within =
      let a = agree_form p q m agree short K r form xs fits ranked within in rw a refl

  steady : (j k : ℕ) (n : N) (xs : List X) → 32 * length xs + rank n < j → 32 * length xs + rank n < k → parse_by sort first rule j n xs ≡ parse_by sort first rule k n xs
  steady zero k n xs a b = absurd (omega arith)
  steady (suc j) zero n xs a b = absurd (omega arith)
  steady (suc j) (suc k) n xs a b =
      agree_form (parse_by sort first rule j) (parse_by sort first rule k) (32 * length xs + rank n) (λ m ys less. steady j k m ys (omega arith) (omega arith)) (shorter k)
      (cont n) (rank n) (rule n) xs (fit n).fits (fit n).ranked (omega arith)

  abbrev read : (n : N) → List X → Outcome X (V n)
  read = reading sort first rule rank

  pub reading_is : (n : N) (xs : List X) → read n xs ≡ parse sort first read (rule n) xs
  unfolding reading
  reading_is n xs =
      agree_form (parse_by sort first rule (32 * length xs + rank n)) read (32 * length xs + rank n) (λ m ys less. steady (32 * length xs + rank n) (suc (32 * length ys + rank m)) m ys less (omega arith))
      (λ m ys. shorter (suc (32 * length ys + rank m)) m ys) (cont n) (rank n) (rule n) xs (fit n).fits (fit n).ranked (omega arith)

  shrinks_by : (k : ℕ) (n : N) (xs : List X) → left (parse_by sort first rule k n xs) ≤ length xs
  shrinks_by zero n xs = omega arith
  shrinks_by (suc k) n xs = shrinks_form sort first (parse_by sort first rule k) (shrinks_by k) (rule n) xs

  pub shrinks : (n : N) (xs : List X) → left (read n xs) ≤ length xs
  unfolding reading
  shrinks n xs = shrinks_by (suc (32 * length xs + rank n)) n xs

  -- ---- the grammar's one tree, and where it begins nothing

  pub derived_is_read : (h : ℕ) (n : N) (ys : List X) (v : V n) (rest : List X) → Derives sort rule h n ys v → goes sort (cont n) rest ≡ false → read n (ys ++ rest) ≡ found v rest
  derived_is_read zero n ys v rest d stop = absurd d
  derived_is_read (suc h) n ys v rest d stop =
      let (heads, full) = tells h in
      reading_is n (ys ++ rest) ∙ form_found sort first cont nullable (Derives sort rule h) heads full read (derived_is_read h) (cont n) (rule n) ys v rest (fit n).fits d stop

  pub started_is_read : (h : ℕ) (n : N) (ys rest : List X) → Starts sort rule h n ys → left (read n (ys ++ rest)) ≤ length rest
  started_is_read zero n [] rest d = shrinks n rest
  started_is_read zero n (y ∷ ys) rest d = absurd cc
  started_is_read (suc h) n ys rest d =
      let (heads, full) = tells h in
      let same = ap left (reading_is n (ys ++ rest)) in
      let k = begun_read sort first cont nullable (Derives sort rule h) heads full read (derived_is_read h) shrinks (Starts sort rule h) (starts_tell h) (derived_starts sort rule h) (started_is_read h) (cont n) (rule n) ys rest (fit n).fits d in
      omega arith

  pub read_is_derived : (n : N) (xs : List X) (v : V n) (rest : List X) → read n xs ≡ found v rest → (h : ℕ) × (ys : List X) × (xs ≡ ys ++ rest) × Derives sort rule h n ys v
  unfolding reading
  read_is_derived n xs v rest e = let k = suc (32 * length xs + rank n) in let (ys, same, d) = found_by k n xs v rest e in (k, ys, same, d)

  pub fault_is_started : (n : N) (xs rest : List X) → read n xs ≡ fault rest → (h : ℕ) × (ys : List X) × (xs ≡ ys ++ rest) × Starts sort rule h n ys
  unfolding reading
  fault_is_started n xs rest e = let k = suc (32 * length xs + rank n) in let (ys, same, d) = fault_by k n xs rest e in (k, ys, same, d)

  -- what comes at a fault doesn't go on with what is before it
  pub fault_is_first : (n : N) (ys : List X) (x : X) (rest : List X) → read n (ys ++ (x ∷ rest)) ≡ fault (x ∷ rest) → (h : ℕ) → Starts sort rule h n (ys ++ (x ∷ [])) → ⊥
  fault_is_first n ys x rest e h d =
      let k = started_is_read h n (ys ++ (x ∷ [])) rest d in
      let same = ap (λ (l : List X). left (read n l)) (append_assoc ys (x ∷ []) rest) in
      let here = ap left e in
      omega arith

  pub whole_is_read : (h : ℕ) (n : N) (xs : List X) (v : V n) → Derives sort rule h n xs v → read n xs ≡ found v []
  whole_is_read h n xs v d = ap (λ (l : List X). read n l) (sym (append-nil xs)) ∙ derived_is_read h n xs v [] d refl

  pub one_value : (h k : ℕ) (n : N) (xs : List X) (v w : V n) → Derives sort rule h n xs v → Derives sort rule k n xs w → v ≡ w
  one_value h k n xs v w d e = let a = whole_is_read h n xs v d in let b = whole_is_read k n xs w e in cc
