-- Reading one format behind another.
use Rattle.std.specs.Prelude.{ℕ, suc, ◌≡◌, ◌+◌, ◌-◌, ◌≤◌, ◌<◌, ◌&&◌, Bool, true, false, List, [], ◌∷◌, ◌++◌, length, take, drop, Result, Ok, Err, nat_le, if◌then◌else◌}
use Rattle.std.proofs.Common.{refl, sym, ap, ◌∙◌, arith}
use Rattle.aw_codec.specs.declared.record.BadRecord.{BadRecord}
use Rattle.aw_codec.specs.declared.record.BadRecord.TheVariants.{At, NoMemory}
use Rattle.aw_codec.specs.Formats.{Format, ended, field, ◌>>=◌, many}
use Rattle.aw_codec.specs.Parsing.{reading, onward, Fails}

onward-if : {A B : Type 0} (b : Bool) (x : Result B ℕ) (r : Result (A × ℕ) ℕ) (k : ℕ) (next : A → ℕ → Result B ℕ) → x ≡ onward r next
    → (if b then x else Err k) ≡ onward (if b then r else Err k) next
onward-if true x r k next is = is
onward-if false x r k next is = refl

pub reading_bind : {A B : Type 0} (format : Format A) (next : A → Format B) (bytes : List ℕ) (at : ℕ) → reading (format >>= next) bytes at ≡ onward (reading format bytes at) (λ v behind. reading (next v) bytes behind)
reading_bind (ended v) next bytes at = refl
reading_bind (field width test behind) next bytes at =
    let front = take width (drop at bytes) in
    onward-if (nat_le (at + width) (length bytes) && test front) (reading (behind front >>= next) bytes (at + width)) (reading (behind front) bytes (at + width)) at (λ v end. reading (next v) bytes end)
    (reading_bind (behind front) next bytes (at + width))

-- ---- parts one behind the other, as a loop reads them

module _ {X : Type 0} (next : List X → Format X) (count i : ℕ) (before : List X) (bytes : List ℕ) (at : ℕ) (total : Result (List X × ℕ) ℕ) (so_far : reading (many next (count - i) before) bytes at ≡ total) where
  pub next_part : (x : X) (behind : ℕ) → i < count → reading (next before) bytes at ≡ Ok (x, behind) → reading (many next (count - (i + 1)) (before ++ x ∷ [])) bytes behind ≡ total
  unfolding many
  next_part x behind lt e =
      let more : count - i ≡ suc (count - (i + 1)) = omega arith in
      let split = reading_bind (next before) (λ y. many next (count - (i + 1)) (before ++ y ∷ [])) bytes at in
      ap (λ (read : Result (X × ℕ) ℕ). onward read (λ y end. reading (many next (count - (i + 1)) (before ++ y ∷ [])) bytes end)) (sym e)
      ∙ sym split ∙ ap (λ (n : ℕ). reading (many next n before) bytes at) (sym more) ∙ so_far

  pub no_part : (e : BadRecord) → i < count → Fails e (reading (next before) bytes at) → Fails e total
  unfolding many
  no_part (At k) lt fails =
      let more : count - i ≡ suc (count - (i + 1)) = omega arith in
      let split = reading_bind (next before) (λ y. many next (count - (i + 1)) (before ++ y ∷ [])) bytes at in
      sym so_far ∙ ap (λ (n : ℕ). reading (many next n before) bytes at) more ∙ split
      ∙ ap (λ (read : Result (X × ℕ) ℕ). onward read (λ y end. reading (many next (count - (i + 1)) (before ++ y ∷ [])) bytes end)) fails
  no_part NoMemory lt fails = tt

  pub all_parts : count ≤ i → total ≡ Ok (before, at)
  unfolding many
  all_parts le =
      let none : count - i ≡ 0 = omega arith in
      sym so_far ∙ ap (λ (n : ℕ). reading (many next n before) bytes at) none
