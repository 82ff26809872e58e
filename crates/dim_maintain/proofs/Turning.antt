-- The last values of a list, put one after the other at a place before them, stand there in their order.
use Rattle.std.proofs.Common.{ℕ, zero, suc, ◌≡◌, ◌+◌, ◌≤◌, ◌<◌, List, [], ◌∷◌, ◌++◌, length, take, drop, refl, sym, ◌∙◌, ap, arith, append-nil, append_assoc}
use Rattle.std.proofs.lemmas.List.{length-append, take-append-drop}
use Rattle.aw_dim.specs.DimensionState.{Entry}

-- the last `count` values of a list stand behind the first `at`
pub record Turned (before : List Entry) (at count : ℕ) (entries : List Entry) : Type 0 where
  pub front : List Entry
  pub middle : List Entry
  pub turned : List Entry
  pub was : before ≡ front ++ (middle ++ turned)
  pub is : entries ≡ front ++ (turned ++ middle)
  pub front_len : length front ≡ at
  pub turned_len : length turned ≡ count

length_take : (k : ℕ) (xs : List Entry) → k ≤ length xs → length (take k xs) ≡ k
length_take zero xs h = refl
length_take (suc k) [] h = absurd (omega (arith, h))
length_take (suc k) (x ∷ xs) h = ap suc (length_take k xs (omega (arith, h)))

pub turned_none : (before : List Entry) (at : ℕ) → at ≤ length before → Turned before at 0 before
turned_none before at h =
    record {
      front = take at before;
      middle = drop at before;
      turned = [];
      was = sym (ap (λ (xs : List Entry). take at before ++ xs) (append-nil (drop at before)) ∙ take-append-drop at before);
      is = sym (take-append-drop at before);
      front_len = length_take at before h;
      turned_len = refl;
    }

-- a list that isn't empty has a last element
record Ends (xs : List Entry) : Type 0 where
  rest : List Entry
  last : Entry
  is : xs ≡ rest ++ last ∷ []

ends : (xs : List Entry) → 0 < length xs → Ends xs
ends [] h = absurd (omega (arith, h))
ends (x ∷ []) h = record { rest = []; last = x; is = refl }
ends (x ∷ y ∷ xs) h = let more = ends (y ∷ xs) (omega arith) in record { rest = x ∷ more.rest; last = more.last; is = ap (λ (ys : List Entry). x ∷ ys) more.is }

taken : (front rest : List Entry) (at : ℕ) → length front ≡ at → (take at (front ++ rest) ≡ front) × (drop at (front ++ rest) ≡ rest)
taken [] rest at h = let e : at ≡ 0 = sym h in (ap (λ (n : ℕ). take n rest) e, ap (λ (n : ℕ). drop n rest) e)
taken (x ∷ front) rest zero h = absurd (omega (arith, h))
taken (x ∷ front) rest (suc at) h = let more = taken front rest at (omega (arith, h)) in (ap (λ (ys : List Entry). x ∷ ys) more.0, more.1)

pub turned_more : (before : List Entry) (at count : ℕ) (entries next : List Entry) → Turned before at count entries → at + count < length before → ((rest : List Entry) (last : Entry) → entries ≡ rest ++ last ∷ [] → next ≡ take at rest ++ last ∷ drop at rest) → Turned before at (count + 1) next
turned_more before at count entries next so less step =
    let n : length before ≡ length so.front + (length so.middle + length so.turned) = ap (λ (xs : List Entry). length xs) so.was ∙ length-append so.front (so.middle ++ so.turned) ∙ ap (λ (k : ℕ). length so.front + k) (length-append so.middle so.turned) in
    let last = ends so.middle (omega (arith, n, less, so.front_len, so.turned_len)) in
    let split : entries ≡ (so.front ++ (so.turned ++ last.rest)) ++ last.last ∷ [] =
    so.is
    ∙ ap (λ (xs : List Entry). so.front ++ (so.turned ++ xs)) last.is
    ∙ ap (λ (xs : List Entry). so.front ++ xs) (sym (append_assoc so.turned last.rest (last.last ∷ [])))
    ∙ sym (append_assoc so.front (so.turned ++ last.rest) (last.last ∷ [])) in
    let parts = taken so.front (so.turned ++ last.rest) at so.front_len in
    record {
      front = so.front;
      middle = last.rest;
      turned = last.last ∷ so.turned;
      was = so.was ∙ ap (λ (xs : List Entry). so.front ++ (xs ++ so.turned)) last.is ∙ ap (λ (xs : List Entry). so.front ++ xs) (append_assoc last.rest (last.last ∷ []) so.turned);
      is = step (so.front ++ (so.turned ++ last.rest)) last.last split ∙ ap (λ (xs : List Entry). xs ++ last.last ∷ drop at (so.front ++ (so.turned ++ last.rest))) parts.0 ∙ ap (λ (xs : List Entry). so.front ++ last.last ∷ xs) parts.1;
      front_len = so.front_len;
      turned_len = (let t = so.turned_len in omega (arith, t));
    }

same_ends : (xs ys : List Entry) (zs ws : List Entry) → xs ++ zs ≡ ys ++ ws → length xs ≡ length ys → (xs ≡ ys) × (zs ≡ ws)
same_ends [] [] zs ws e h = (refl, e)
same_ends [] (y ∷ ys) zs ws e h = absurd (omega (arith, h))
same_ends (x ∷ xs) [] zs ws e h = absurd (omega (arith, h))
same_ends (x ∷ xs) (y ∷ ys) zs ws e h =
    let head : x ≡ y = cc in
    let tail : xs ++ zs ≡ ys ++ ws = cc in
    let more = same_ends xs ys zs ws tail (omega (arith, h)) in
    (λ i. head i ∷ more.0 i, more.1)

pub turned_all : (before : List Entry) (at count : ℕ) (entries rest these : List Entry) → Turned before at count entries → before ≡ rest ++ these → length these ≡ count → entries ≡ take at rest ++ these ++ drop at rest
turned_all before at count entries rest these so is h =
    let whole : (so.front ++ so.middle) ++ so.turned ≡ rest ++ these = append_assoc so.front so.middle so.turned ∙ sym so.was ∙ is in
    let n : length (so.front ++ so.middle) + length so.turned ≡ length rest + length these = sym (length-append (so.front ++ so.middle) so.turned) ∙ ap (λ (xs : List Entry). length xs) whole ∙ length-append rest these in
    let same = same_ends (so.front ++ so.middle) rest so.turned these whole (omega (arith, n, h, so.turned_len)) in
    let parts = taken so.front so.middle at so.front_len in
    so.is
    ∙ sym (append_assoc so.front so.turned so.middle)
    ∙ ap (λ (xs : List Entry). (xs ++ so.turned) ++ so.middle) (sym parts.0 ∙ ap (take at) same.0)
    ∙ ap (λ (xs : List Entry). (take at rest ++ xs) ++ so.middle) same.1
    ∙ ap (λ (xs : List Entry). (take at rest ++ these) ++ xs) (sym parts.1 ∙ ap (drop at) same.0)
