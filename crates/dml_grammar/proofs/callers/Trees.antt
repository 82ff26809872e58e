-- What the function of trees gives.
use Rattle.std.specs.Prelude.{ℕ, ◌≡◌, ◌-◌, Bool, true, false, nat_eq, cond, List, length, take, Result, Ok, Err}
use Rattle.std.proofs.Common.{refl, ap, arith, inl, inr}
use Rattle.std.proofs.lemmas.Bool.Decides.{nat_tests}
use Rattle.dml_forms.specs.inside.Front.{IsLongestFront}
use Rattle.dml_forms.specs.inside.LookAhead.{Outcome, found, fault}
use Rattle.dml_grammar.specs.declared.placed.Placed.{Placed}
use Rattle.dml_grammar.specs.Grammar.{Part, Value}
use Rattle.dml_grammar.specs.Limits.{keeps_limits, none_counted}
use Rattle.dml_grammar.specs.Sentences.{Is, IsRefusedAt}
use Rattle.dml_grammar.specs.Trees.{IsTreeOf, answer_by, tree_of}
use Rattle.dml_grammar.specs.inside.Fronts.{front}
use Rattle.dml_grammar.specs.inside.Tables.{reads}
use Rattle.dml_grammar.proofs.Limiting.{front_is_longest}
use Rattle.dml_grammar.proofs.callers.Answering.{is_part, is_refused, is_faulty, one_tree, not_refused, one_refusal}

module _ (n : Part) (xs : List Placed) where
  by_outcome : (m : ℕ) → IsLongestFront keeps_limits xs m → (o : Outcome Placed (Value n)) → reads n (take m xs) ≡ o → IsTreeOf n xs (answer_by o m (length xs))
  by_outcome m longest (fault rest) e = is_faulty n xs rest m (m - length rest) longest e refl
  by_outcome m longest (found v rest) e = by (nat_eq (m - length rest) (length xs)) refl
    where
      by : (all : Bool) → nat_eq (m - length rest) (length xs) ≡ all → IsTreeOf n xs (cond all (Ok v) (Err (m - length rest)))
      by true is = is_part n xs rest m (m - length rest) v longest e refl (grind (arith, nat_tests))
      by false is = is_refused n xs rest m (m - length rest) v longest e refl (λ all. grind (arith, nat_tests))

pub tree_right : (n : Part) (xs : List Placed) → IsTreeOf n xs (tree_of n xs)
unfolding tree_of
tree_right n xs = by_outcome n xs (front none_counted xs) (front_is_longest xs (front none_counted xs) refl) (reads n (take (front none_counted xs) xs)) refl

module _ (n : Part) (xs : List Placed) where
  by_tree : (v : Value n) → Is n xs v → (r : Result (Value n) ℕ) → IsTreeOf n xs r → r ≡ Ok v
  by_tree v is (Ok w) so = ap (λ (t : Value n). Ok t) (one_tree n xs w v so is)
  by_tree v is (Err k) so = absurd (not_refused n xs k v so is)

  by_refusal : (k : ℕ) → IsRefusedAt n xs k → (r : Result (Value n) ℕ) → IsTreeOf n xs r → r ≡ Err k
  by_refusal k refused (Ok w) so = absurd (not_refused n xs k w refused so)
  by_refusal k refused (Err j) so = ap (λ (i : ℕ). Err i) (one_refusal n xs j k so refused)

  pub tree_is : (v : Value n) → Is n xs v → tree_of n xs ≡ Ok v
  tree_is v is = by_tree v is (tree_of n xs) (tree_right n xs)

  pub refusal_is : (k : ℕ) → IsRefusedAt n xs k → tree_of n xs ≡ Err k
  refusal_is k refused = by_refusal k refused (tree_of n xs) (tree_right n xs)
