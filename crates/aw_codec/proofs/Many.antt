-- So many parts, one behind the other: what each of them is, and what they are together.
use Rattle.std.specs.Prelude.{ℕ, zero, suc, ◌≡◌, ◌+◌, ◌-◌, List, [], ◌∷◌, ◌++◌, length, Some, slice_get, ⊤}
use Rattle.std.specs.List.{flat_map, AllByRecursion}
use Rattle.std.proofs.Common.{refl, sym, ap, subst, ◌∙◌, append_assoc, arith}
use Rattle.std.proofs.lemmas.List.{append-nil, length-append}
use Rattle.std.proofs.lemmas.Option.{slice_get-get_or}
use Rattle.std.proofs.Math.Seq.{get_or-append_seam}
use Rattle.aw_codec.specs.RecordFormat.{last_of}
use Rattle.aw_codec.specs.Formats.{Format, ended, many, IsWhole}
use Rattle.aw_codec.proofs.Parts.{Reads, parts, joined, ended_is, ended_whole}

-- the parts by what each of them is
pub together : {bytes a b x y : List ℕ} → bytes ≡ a ++ b → a ≡ x → b ≡ y → bytes ≡ x ++ y
together same first second = cc

-- each may stand behind those before it
abbrev pub AreFitting : {X : Type 0} → (List X → X → Type 0) → List X → List X → Type 0
AreFitting Fits before [] = ⊤
AreFitting Fits before (x ∷ xs) = Fits before x × AreFitting Fits (before ++ x ∷ []) xs

-- these parts were read behind those
pub record Are {X : Type 0} (spell : X → List ℕ) (Fits : List X → X → Type 0) (n : ℕ) (before : List X) (bytes : List ℕ) (all : List X) : Type 0 where
  pub xs : List X
  pub is : all ≡ before ++ xs
  pub same : bytes ≡ flat_map spell xs
  pub size : length xs ≡ n
  pub fit : AreFitting Fits before xs

module _ {X : Type 0} (next : List X → Format X) (spell : X → List ℕ) (Fits : List X → X → Type 0) where
  pub many_are : ((before : List X) (bytes : List ℕ) (x : X) → Reads (next before) bytes x → (bytes ≡ spell x) × Fits before x)
      → (n : ℕ) (before : List X) (bytes : List ℕ) (all : List X) → Reads (many next n before) bytes all → Are spell Fits n before bytes all
  unfolding many
  many_are each zero before bytes all reads =
      let (is, nothing) = ended_is before all bytes reads.whole in
      record { xs = []; is = is ∙ sym (append-nil before); same = nothing; size = refl; fit = tt }
  many_are each (suc n) before bytes all reads =
      let p = parts (next before) (λ x. many next n (before ++ x ∷ [])) bytes all reads in
      let (first, fits) = each before p.front p.v p.first in
      let rest = many_are each n (before ++ p.v ∷ []) p.back all p.second in
      record {
        xs = p.v ∷ rest.xs;
        is = rest.is ∙ append_assoc before (p.v ∷ []) rest.xs;
        same = together p.same first rest.same;
        size = ap suc rest.size;
        fit = (fits, rest.fit);
      }

  pub many_whole : ((before : List X) (x : X) → Fits before x → IsWhole (next before) (spell x) x)
      → (before xs : List X) → AreFitting Fits before xs → IsWhole (many next (length xs) before) (flat_map spell xs) (before ++ xs)
  unfolding many
  many_whole each before [] fit = subst (λ (all : List X). IsWhole (ended before) [] all) (sym (append-nil before)) (ended_whole before)
  many_whole each before (x ∷ xs) (first, rest) =
      subst (λ (all : List X). IsWhole (many next (suc (length xs)) before) (spell x ++ flat_map spell xs) all) (append_assoc before (x ∷ []) xs)
      (joined (next before) (λ y. many next (length xs) (before ++ y ∷ [])) (spell x) (flat_map spell xs) x ((before ++ x ∷ []) ++ xs) (each before x first) (many_whole each (before ++ x ∷ []) xs rest))

-- where what stands before doesn't matter
pub each_fits : {X : Type 0} (P : X → Type 0) (before xs : List X) → AreFitting (λ _ x. P x) before xs → AllByRecursion P xs
each_fits P before [] fit = tt
each_fits P before (x ∷ xs) (first, rest) = (first, each_fits P (before ++ x ∷ []) xs rest)

pub fit_each : {X : Type 0} (P : X → Type 0) (before xs : List X) → AllByRecursion P xs → AreFitting (λ _ x. P x) before xs
fit_each P before [] each = tt
fit_each P before (x ∷ xs) (first, rest) = (first, fit_each P (before ++ x ∷ []) xs rest)

-- what fits in one sense fits in another
pub fit_so : {X : Type 0} (Fits Other : List X → X → Type 0) → ((before : List X) (x : X) → Fits before x → Other before x) → (before xs : List X) → AreFitting Fits before xs → AreFitting Other before xs
fit_so Fits Other so before [] fit = tt
fit_so Fits Other so before (x ∷ xs) (first, rest) = (so before x first, fit_so Fits Other so (before ++ x ∷ []) xs rest)

-- in both senses
pub fit_both : {X : Type 0} (Fits Other : List X → X → Type 0) (before xs : List X) → AreFitting Fits before xs → AreFitting Other before xs → AreFitting (λ b x. Fits b x × Other b x) before xs
fit_both Fits Other before [] fit other = tt
fit_both Fits Other before (x ∷ xs) (first, rest) (second, others) = ((first, second), fit_both Fits Other (before ++ x ∷ []) xs rest others)

-- ---- the last one

pub last_is : {X : Type 0} (before : List X) (x : X) → last_of (before ++ x ∷ []) ≡ Some x
last_is before x =
    let size : length (before ++ x ∷ []) ≡ length before + 1 = length-append before (x ∷ []) in
    let place : length (before ++ x ∷ []) - 1 ≡ length before = omega arith in
    ap (slice_get (before ++ x ∷ [])) place
    ∙ slice_get-get_or (before ++ x ∷ []) (length before) x (omega arith)
    ∙ ap Some (get_or-append_seam before x [] x)
