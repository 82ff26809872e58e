-- A list of tokens is accepted or refused, at one place.
use Rattle.std.specs.Prelude.{ℕ, zero, Bool, IsTrue, suc, ◌≡◌, ◌-◌, ◌<◌, ◌≤◌, ◌⊎◌, List, [], ◌∷◌, ◌++◌, length, take}
use Rattle.std.proofs.Common.{refl, sym, ap, ◌∙◌, append_assoc, append-nil, arith, subst, length-append, inl, inr}
use Rattle.std.proofs.lemmas.Bool.{cases_lt}
use Rattle.std.proofs.lemmas.List.{take_at, length-take-le}
use Rattle.std.proofs.Math.Seq.{take-length}
use Rattle.dml_forms.specs.Forms.{Form, Derives, Starts}
use Rattle.dml_forms.specs.Deciding.{Fit}
use Rattle.dml_forms.specs.Refusing.{IsKeptByFronts, Accepted, Begun, RefusedAt}
use Rattle.dml_forms.specs.inside.Front.{IsLongestFront}
use Rattle.dml_forms.specs.inside.LookAhead.{Outcome, found, fault, left, reading}
use Rattle.dml_forms.proofs.Parts.{derived_starts, started_is_read, read_is_derived, fault_is_started, whole_is_read, one_value}
use Rattle.dml_forms.proofs.Found.{one_way}
use Rattle.dml_forms.proofs.Fronts.{fronts_start}

-- ---- fronts

front_of : {X : Type 0} (k m : ℕ) (xs : List X) → k ≤ m → take k (take m xs) ≡ take k xs
front_of zero m xs less = refl
front_of (suc k) zero xs less = absurd (omega arith)
front_of (suc k) (suc m) [] less = refl
front_of {X} (suc k) (suc m) (x ∷ xs) less = ap (λ (l : List X). x ∷ l) (front_of k m xs (omega arith))

-- the shorter of two fronts goes on to the longer one
goes_on : {X : Type 0} (k m : ℕ) (xs : List X) → k ≤ m → (ys : List X) × (take m xs ≡ take k xs ++ ys)
goes_on zero m xs less = (take m xs, refl)
goes_on (suc k) zero xs less = absurd (omega arith)
goes_on (suc k) (suc m) [] less = ([], refl)
goes_on {X} (suc k) (suc m) (x ∷ xs) less = let (ys, same) = goes_on k m xs (omega arith) in (ys, ap (λ (l : List X). x ∷ l) same)

module _ {X N : Type 0} {V : N → Type 0} (sort : X → ℕ) (rule : (n : N) → Form X N V (V n)) (limit : List X → Bool) (kept : IsKeptByFronts limit) where
  begun_front : (n : N) (xs : List X) (k m : ℕ) → k ≤ m → Begun sort rule limit n (take m xs) → Begun sort rule limit n (take k xs)
  begun_front n xs k m less (fine, (h, d)) =
      let (ys, same) = goes_on k m xs less in
      (kept xs k m less fine, (h, fronts_start sort rule h n (take k xs) ys (subst (λ (l : List X). Starts sort rule h n l) same d)))

  pub not_both : (n : N) (xs : List X) (k : ℕ) (v : V n) → RefusedAt sort rule limit n xs k → Accepted sort rule limit n xs v → ⊥
  not_both n xs k v r (fine, (h, d)) =
      elim (cases_lt k (length xs)) [
        | inl inside ↦
            let all : Begun sort rule limit n (take (length xs) xs) = subst (λ (l : List X). Begun sort rule limit n l) (sym (take-length xs)) (fine, (h, derived_starts sort rule h n xs v d)) in
            r.here inside (begun_front n xs (suc k) (length xs) (omega arith) all)
        | inr past ↦ let low = r.within in r.early (omega arith) v (fine, (h, d))
      ]

  earlier : (n : N) (xs : List X) (j k : ℕ) → RefusedAt sort rule limit n xs j → RefusedAt sort rule limit n xs k → j < k → ⊥
  earlier n xs j k r s less = let low = s.within in r.here (omega arith) (begun_front n xs (suc j) k (omega arith) s.before)

  pub one_place : (n : N) (xs : List X) (j k : ℕ) → RefusedAt sort rule limit n xs j → RefusedAt sort rule limit n xs k → j ≡ k
  one_place n xs j k r s =
      elim (cases_lt j k) [
        | inl less ↦ absurd (earlier n xs j k r s less)
        | inr not_less ↦ elim (cases_lt k j) [ inl more ↦ absurd (earlier n xs k j s r more) | inr not_more ↦ omega arith ]
      ]

  module _ (first cont : N → List ℕ) (nullable : N → Bool) (rank : N → ℕ) (fit : (n : N) → Fit rule first cont nullable rank n) where
    abbrev read : (n : N) → List X → Outcome X (V n)
    read = reading sort first rule rank

    pub read_accepted : (n : N) (xs : List X) (v : V n) → IsTrue (limit xs) → read n xs ≡ found v [] → Accepted sort rule limit n xs v
    read_accepted n xs v fine e =
        let (h, ys, same, d) = read_is_derived sort rule first cont nullable rank fit n xs v [] e in
        (fine, (h, subst (λ (l : List X). Derives sort rule h n l v) (sym (same ∙ append-nil ys)) d))

    pub accepted_read : (n : N) (xs : List X) (v : V n) → Accepted sort rule limit n xs v → read n xs ≡ found v []
    accepted_read n xs v (fine, (h, d)) = whole_is_read sort rule first cont nullable rank fit h n xs v d

    no_more : (n : N) (xs ys : List X) (x : X) (rest : List X) → xs ≡ ys ++ (x ∷ rest) → left (read n xs) ≡ suc (length rest) → Begun sort rule limit n (ys ++ (x ∷ [])) → ⊥
    no_more n xs ys x rest same e (fine, (h, d)) =
        let k = started_is_read sort rule first cont nullable rank fit h n (ys ++ (x ∷ [])) rest d in
        let is = ap (λ (l : List X). left (read n l)) (append_assoc ys (x ∷ []) rest) in
        let was = ap (λ (l : List X). left (read n l)) same in
        omega arith

    -- the tokens that are read begin the part, and the next one doesn't go on with them
    refused : (n : N) (xs ys rest : List X) → xs ≡ ys ++ rest → IsTrue (limit xs) → (h : ℕ) → Starts sort rule h n ys → left (read n xs) ≡ length rest
        → ((v : V n) → read n xs ≡ found v [] → ⊥) → RefusedAt sort rule limit n xs (length ys)
    refused n xs ys [] same fine h begun e never =
        let size = ap length same in let sum = ap length (append-nil ys) in
        let all : take (length ys) xs ≡ xs = ap (λ (l : List X). take (length l) xs) (sym (same ∙ append-nil ys)) ∙ take-length xs in
        record {
          within = omega arith;
          before = (subst (λ (l : List X). IsTrue (limit l)) (sym all) fine, (h, subst (λ (l : List X). Starts sort rule h n l) (sym (all ∙ same ∙ append-nil ys)) begun));
          here = λ less more. absurd (omega arith);
          early = λ ends v is. never v (accepted_read n xs v is);
        }
    refused n xs ys (x ∷ rest) same fine h begun e never =
        let size = ap length same in let sum = length-append ys (x ∷ rest) in
        let whole : xs ≡ (ys ++ (x ∷ [])) ++ rest = same ∙ sym (append_assoc ys (x ∷ []) rest) in
        let one = length-append ys (x ∷ []) in
        let is : take (length ys) xs ≡ ys = ap (λ (l : List X). take (length ys) l) same ∙ take_at ys (x ∷ rest) (length ys) refl in
        record {
          within = omega arith;
          before = (kept xs (length ys) (length xs) (omega arith) (subst (λ (l : List X). IsTrue (limit l)) (sym (take-length xs)) fine), (h, subst (λ (l : List X). Starts sort rule h n l) (sym is) begun));
          here = λ less more. no_more n xs ys x rest same e (subst (λ (l : List X). Begun sort rule limit n l) (ap (λ (l : List X). take (suc (length ys)) l) whole ∙ take_at (ys ++ (x ∷ [])) rest (suc (length ys)) (omega arith)) more);
          early = λ ends t is. absurd (omega arith);
        }

    fault_refused : (n : N) (xs rest : List X) (k : ℕ) → IsTrue (limit xs) → read n xs ≡ fault rest → k ≡ length xs - length rest → RefusedAt sort rule limit n xs k
    fault_refused n xs rest k fine e at =
        let (h, ys, same, d) = fault_is_started sort rule first cont nullable rank fit n xs rest e in
        let size = ap length same in let sum = length-append ys rest in
        let is : length ys ≡ k = omega arith in
        subst (λ (m : ℕ). RefusedAt sort rule limit n xs m) is (refused n xs ys rest same fine h d (ap left e) (λ t other. cc))

    more_refused : (n : N) (xs : List X) (v : V n) (rest : List X) (k : ℕ) → IsTrue (limit xs) → read n xs ≡ found v rest → (rest ≡ [] → ⊥) → k ≡ length xs - length rest → RefusedAt sort rule limit n xs k
    more_refused n xs v rest k fine e more at =
        let (h, ys, same, d) = read_is_derived sort rule first cont nullable rank fit n xs v rest e in
        let size = ap length same in let sum = length-append ys rest in
        let is : length ys ≡ k = omega arith in
        subst (λ (m : ℕ). RefusedAt sort rule limit n xs m) is (refused n xs ys rest same fine h (derived_starts sort rule h n ys v d) (ap left e) (λ w other. more cc))

    -- what is refused in the longest front that keeps the limit is refused there
    refused_within : (n : N) (xs : List X) (m k : ℕ) → IsLongestFront limit xs m → RefusedAt sort rule limit n (take m xs) k → RefusedAt sort rule limit n xs k
    refused_within n xs m k front r =
        let fits = front.fits in
        let size : length (take m xs) ≡ m = length-take-le m xs fits in
        let low : k ≤ m = let h = r.within in omega arith in
        record {
          within = omega arith;
          before = subst (λ (l : List X). Begun sort rule limit n l) (front_of k m xs low) r.before;
          here = λ less (fine, begun).
              elim (cases_lt k m) [
                | inl inside ↦ r.here (omega arith) (subst (λ (l : List X). Begun sort rule limit n l) (sym (front_of (suc k) m xs (omega arith))) (fine, begun))
                | inr past ↦ let is : k ≡ m = omega arith in front.most (omega arith) (subst (λ (i : ℕ). IsTrue (limit (take (suc i) xs))) is fine)
              ];
          early = λ ends v is.
              let all : length xs ≡ m = omega arith in
              r.early (omega arith) v (subst (λ (l : List X). Accepted sort rule limit n l v) (sym (ap (λ (i : ℕ). take i xs) (sym all) ∙ take-length xs)) is);
        }

    -- the whole front is a part, and one more token would pass the limit
    cut_refused : (n : N) (xs : List X) (m : ℕ) (v : V n) → IsLongestFront limit xs m → m < length xs → read n (take m xs) ≡ found v [] → RefusedAt sort rule limit n xs m
    cut_refused n xs m v front less e =
        let (fine, (h, d)) = read_accepted n (take m xs) v front.allowed e in
        record {
          within = front.fits;
          before = (fine, (h, derived_starts sort rule h n (take m xs) v d));
          here = λ inside (more, begun). front.most inside more;
          early = λ ends w is. absurd (omega arith);
        }

    pub answer_refused : (n : N) (xs : List X) (m k : ℕ) (o : Outcome X (V n)) → IsLongestFront limit xs m → read n (take m xs) ≡ o → k ≡ m - left o
        → ((v : V n) → o ≡ found v [] → m < length xs) → RefusedAt sort rule limit n xs k
    answer_refused n xs m k (found v []) front e at short = let is : k ≡ m = omega arith in subst (λ (i : ℕ). RefusedAt sort rule limit n xs i) (sym is) (cut_refused n xs m v front (short v refl) e)
    answer_refused n xs m k (found v (x ∷ rest)) front e at short =
        let size : length (take m xs) ≡ m = length-take-le m xs front.fits in
        refused_within n xs m k front (more_refused n (take m xs) v (x ∷ rest) k front.allowed e (λ none. cc) (omega arith))
    answer_refused n xs m k (fault rest) front e at short =
        let size : length (take m xs) ≡ m = length-take-le m xs front.fits in
        refused_within n xs m k front (fault_refused n (take m xs) rest k front.allowed e (omega arith))

    pub answer_accepted : (n : N) (xs : List X) (m : ℕ) (v : V n) → IsLongestFront limit xs m → m ≡ length xs → read n (take m xs) ≡ found v [] → Accepted sort rule limit n xs v
    answer_accepted n xs m v front all e =
        let is : take m xs ≡ xs = ap (λ (i : ℕ). take i xs) all ∙ take-length xs in
        read_accepted n xs v (subst (λ (l : List X). IsTrue (limit l)) is front.allowed) (ap (λ (l : List X). read n l) (sym is) ∙ e)

    -- an accepted list has the value that is read
    pub answer_exact : (n : N) (xs : List X) (v w : V n) → Accepted sort rule limit n xs v → Accepted sort rule limit n xs w → v ≡ w
    answer_exact n xs v w (fine, (h, d)) (fine_too, (k, e)) = one_value sort rule first cont nullable rank fit h k n xs v w d e

    longest : (xs : List X) (k : ℕ) → k ≤ length xs → IsTrue (limit []) → (m : ℕ) × (m ≤ k) × IsTrue (limit (take m xs)) × (m < k → IsTrue (limit (take (suc m) xs)) → ⊥)
    longest xs zero low none = (0, omega arith, none, λ less. absurd (omega arith))
    longest xs (suc k) low none =
        elim (one_way (limit (take (suc k) xs))) [
          | inl fine ↦ (suc k, omega arith, fine, λ less. absurd (omega arith))
          | inr over ↦
              let (m, less, fine, most) = longest xs k (omega arith) none in (
                m,
                omega arith,
                fine,
                λ below more.
                    elim (cases_lt m k) [
                      | inl under ↦ most under more
                      | inr past ↦ let is : m ≡ k = omega arith in let so = subst (λ (i : ℕ). IsTrue (limit (take (suc i) xs))) is more in cc
                    ],
              )
        ]

    pub answered : (n : N) (xs : List X) → IsTrue (limit []) → ((v : V n) × Accepted sort rule limit n xs v) ⊎ ((k : ℕ) × RefusedAt sort rule limit n xs k)
    answered n xs none =
        let (m, low, fine, most) = longest xs (length xs) (omega arith) none in
        let front : IsLongestFront limit xs m = record { fits = low; allowed = fine; most = most } in
        elim (cases_lt m (length xs)) [
          | inl less ↦ inr (m - left (read n (take m xs)), answer_refused n xs m (m - left (read n (take m xs))) (read n (take m xs)) front refl refl (λ v e. less))
          | inr all ↦ by m front (omega arith) (read n (take m xs)) refl
        ]
      where
        by : (m : ℕ) → IsLongestFront limit xs m → m ≡ length xs → (o : Outcome X (V n)) → read n (take m xs) ≡ o → ((v : V n) × Accepted sort rule limit n xs v) ⊎ ((k : ℕ) × RefusedAt sort rule limit n xs k)
        by m front all (found v []) e = inl (v, answer_accepted n xs m v front all e)
        by m front all (found v (x ∷ rest)) e = inr (m - length (x ∷ rest), answer_refused n xs m (m - length (x ∷ rest)) (found v (x ∷ rest)) front e refl (λ w same. absurd cc))
        by m front all (fault rest) e = inr (m - length rest, answer_refused n xs m (m - length rest) (fault rest) front e refl (λ w same. absurd cc))
