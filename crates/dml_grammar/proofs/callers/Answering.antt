-- A whole part is read as its one tree, or refused at the first token with which it begins nothing.
use Rattle.std.specs.Prelude.{ℕ, ◌≡◌, ◌-◌, ◌<◌, ◌≤◌, List, [], ◌∷◌, length, take, nat_eq, Result, Ok, Err}
use Rattle.std.proofs.Common.{sym, ap, arith, inl, inr, subst}
use Rattle.std.proofs.lemmas.Bool.{cases_lt}
use Rattle.std.proofs.lemmas.Bool.Decides.{nat_tests}
use Rattle.std.proofs.lemmas.List.{length-take-le}
use Rattle.dml_forms.specs.inside.Front.{IsLongestFront}
use Rattle.dml_forms.specs.inside.LookAhead.{Outcome, found, fault, left}
use Rattle.dml_forms.proofs.CallerLemmas.{answer_accepted, answer_refused, answer_exact, not_both, one_place}
use Rattle.dml_grammar.specs.declared.placed.Placed.{Placed}
use Rattle.dml_grammar.specs.declared.fault.Fault.{Fault}
use Rattle.dml_grammar.specs.declared.fault.Fault.TheVariants as f
use Rattle.dml_grammar.specs.declared.refusals.Refusal.{Refusal}
use Rattle.dml_grammar.specs.Sorts.{sort}
use Rattle.dml_grammar.specs.Grammar.{Part, Value, rule}
use Rattle.dml_grammar.specs.Limits.{keeps_limits}
use Rattle.dml_grammar.specs.Sentences.{Is, IsRefusedAt}
use Rattle.dml_grammar.specs.inside.Answering.{IsAnswered, settled}
use Rattle.dml_grammar.specs.inside.Steps.{Read}
use Rattle.dml_grammar.specs.inside.Tables.{first, cont, nullable, rank, reads}
use Rattle.dml_grammar.proofs.Fitting.{fit}
use Rattle.dml_grammar.proofs.Limiting.{fronts_keep, one_way}
use Rattle.dml_grammar.proofs.callers.Steps.{reads_less}

pub is_part : (n : Part) (xs ys : List Placed) (m k : ℕ) (v : Value n) → IsLongestFront keeps_limits xs m → reads n (take m xs) ≡ found v ys → k ≡ m - length ys → k ≡ length xs → Is n xs v
unfolding Is
is_part n xs [] m k v front e at all =
    answer_accepted sort rule keeps_limits fronts_keep first cont nullable rank fit n xs m v front (omega arith) e
is_part n xs (y ∷ ys) m k v front e at all =
    let size : length (take m xs) ≡ m = length-take-le m xs front.fits in
    let same : left (reads n (take m xs)) ≡ length (y ∷ ys) = ap (λ (o : Outcome Placed (Value n)). left o) e in
    let less : left (reads n (take m xs)) ≤ length (take m xs) = reads_less n (take m xs) in
    let low : m ≤ length xs = front.fits in
    absurd (omega arith)

pub is_refused : (n : Part) (xs ys : List Placed) (m k : ℕ) (v : Value n) → IsLongestFront keeps_limits xs m → reads n (take m xs) ≡ found v ys → k ≡ m - length ys → (k ≡ length xs → ⊥) → IsRefusedAt n xs k
unfolding IsRefusedAt
is_refused n xs ys m k v front e at short =
    answer_refused sort rule keeps_limits fronts_keep first cont nullable rank fit n xs m k (found v ys) front e at (λ w same. by ys at w same)
  where
    by : (zs : List Placed) → k ≡ m - length zs → (w : Value n) → found v zs ≡ found w [] → m < length xs
    by [] here w same = let low = front.fits in elim (cases_lt m (length xs)) [ inl less ↦ less | inr past ↦ absurd (short (omega arith)) ]
    by (z ∷ zs) here w same = absurd cc

pub is_faulty : (n : Part) (xs ys : List Placed) (m k : ℕ) → IsLongestFront keeps_limits xs m → reads n (take m xs) ≡ fault ys → k ≡ m - length ys → IsRefusedAt n xs k
unfolding IsRefusedAt
is_faulty n xs ys m k front e at =
    answer_refused sort rule keeps_limits fronts_keep first cont nullable rank fit n xs m k (fault ys) front e at (λ w same. absurd cc)

settled_is_answered : (n : Part) (xs ys : List Placed) (m k : ℕ) (r : Result (Value n) Fault) → IsLongestFront keeps_limits xs m → Read (reads n (take m xs)) r ys → k ≡ m - length ys → IsAnswered n xs (settled r k (length xs))
settled_is_answered n xs ys m k (Ok v) front e at =
    elim (one_way (nat_eq k (length xs))) [
      | inl so ↦ let all : k ≡ length xs = grind (arith, nat_tests) in rw so (is_part n xs ys m k v front e at all)
      | inr so ↦ let short : k ≡ length xs → ⊥ = λ all. grind (arith, nat_tests) in rw so (is_refused n xs ys m k v front e at short)
    ]
settled_is_answered n xs ys m k (Err f.Syntax) front e at = is_faulty n xs ys m k front e at
settled_is_answered n xs ys m k (Err f.NoMemory) front e at = tt

-- what was read of the front within the limits is settled
pub is_answered : (n : Part) (xs ys : List Placed) (m k : ℕ) (r : Result (Value n) Fault) (a : Result (Value n) Refusal) → IsLongestFront keeps_limits xs m → Read (reads n (take m xs)) r ys → k ≡ m - length ys → a ≡ settled r k (length xs) → IsAnswered n xs a
is_answered n xs ys m k r a front e at is =
    subst (λ (b : Result (Value n) Refusal). IsAnswered n xs b) (sym is) (settled_is_answered n xs ys m k r front e at)

-- ---- what follows for the public answers

pub one_tree : (n : Part) (xs : List Placed) (v w : Value n) → Is n xs v → Is n xs w → v ≡ w
unfolding Is
one_tree n xs v w a b = answer_exact sort rule keeps_limits fronts_keep first cont nullable rank fit n xs v w a b

pub not_refused : (n : Part) (xs : List Placed) (k : ℕ) (v : Value n) → IsRefusedAt n xs k → Is n xs v → ⊥
unfolding Is IsRefusedAt
not_refused n xs k v refusal a = not_both sort rule keeps_limits fronts_keep n xs k v refusal a

pub one_refusal : (n : Part) (xs : List Placed) (j k : ℕ) → IsRefusedAt n xs j → IsRefusedAt n xs k → j ≡ k
unfolding IsRefusedAt
one_refusal n xs j k a b = one_place sort rule keeps_limits fronts_keep n xs j k a b
