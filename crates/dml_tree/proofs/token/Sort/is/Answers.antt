use Rattle.std.proofs.Common.{◌≡◌, ◌+◌, ℕ, Bool, true, false, refl, ap, sym, arith, eqb-true, eq-eqb, ne_eqb}
use Rattle.std.specs.Prelude.{nat_eq}
use Rattle.std.proofs.lemmas.Bool.{eqb-false}
use Rattle.dml_tree.specs.Words.{word_number}
use Rattle.dml_tree.proofs.token.Sort.is.Goals as goal

shifted : (k m n : ℕ) → nat_eq m n ≡ nat_eq (k + m) (k + n)
shifted k m n = by (nat_eq m n) refl
  where
    by : (b : Bool) → nat_eq m n ≡ b → b ≡ nat_eq (k + m) (k + n)
    by true e = sym (eq-eqb (k + m) (k + n) (ap (λ x. k + x) (eqb-true m n e)))
    by false e = let other = eqb-false m n e in sym (ne_eqb (k + m) (k + n) (omega arith))

pub returns-in-Word-Word : goal.returns-in-Word-Word
returns-in-Word-Word c = rw (c.in-Word-Word.is-0, c.in-Word-Word.is-1, c.eq.ensures) (shifted 16 (word_number c.in-Word-Word.one) (word_number c.in-Word-Word.other))
