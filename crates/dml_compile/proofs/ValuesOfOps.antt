-- Ops that have a value, wherever they stand.
use Rattle.std.proofs.Common.{◌≡◌, ◌∙◌, ℕ, suc, ◌+◌, ◌<◌, ◌≤◌, Bool as Truth, cond, eq-eqb, List, [], ◌∷◌, ◌++◌, length, Option, Some, None, Ok, Err, option_map, refl, ap, subst, arith, append_assoc, length-append}
use Rattle.std.proofs.lemmas.Bool.{ne_eqb}
use Rattle.aw_cell.specs.declared.cell.Cell.{Cell}
use Rattle.dml_exec.specs.declared.op.Op.{Op}
use Rattle.dml_exec.specs.Meaning.{CodeInputs, Outcome, answered, turn, then_on, going}
use Rattle.dml_compile.specs.Values.{Value, on_one, on_two}

-- nothing, or this
abbrev pub Told : {A : Type 0} → Option A → A → Type 0
Told None v = Unit {0}
Told (Some told) v = told ≡ v

-- where a machine stands with a cell on its other cells, or a refusal, or one that is stuck
abbrev pub stood : ℕ → List Cell → Option Value → Outcome
stood next cells told = option_map (answered next cells) told

abbrev pub one_told : (Cell → Option Value) → Option Value → Option Value
one_told f None = None
one_told f (Some (Err why)) = Some (Err why)
one_told f (Some (Ok a)) = f a

abbrev pub two_told : (Cell → Cell → Option Value) → Option Value → Option Value → Option Value
two_told f None right = None
two_told f (Some (Err why)) right = Some (Err why)
two_told f (Some (Ok a)) right = one_told (f a) right

told_one : (f : Cell → Option Value) (g : Cell → Value) (told : Option Value) (v : Value) → ((a : Cell) → Told (f a) (g a)) → Told told v → Told (one_told f told) (on_one g v)
told_one f g None v fits h = tt
told_one f g (Some (Err why)) v fits h = ap (on_one g) h
told_one f g (Some (Ok a)) v fits h = subst (λ (w : Value). Told (f a) (on_one g w)) h (fits a)

told_two : (f : Cell → Cell → Option Value) (g : Cell → Cell → Value) (one : Option Value) (v : Value) (other : Option Value) (w : Value) → ((a b : Cell) → Told (f a b) (g a b)) → Told one v → Told other w → Told (two_told f one other) (on_two g v w)
told_two f g None v other w fits h k = tt
told_two f g (Some (Err why)) v other w fits h k = ap (λ (x : Value). on_two g x w) h
told_two f g (Some (Ok a)) v other w fits h k =
    subst (λ (x : Value). Told (one_told (f a) other) (on_two g x w)) h (right other k)
  where
    right : (told : Option Value) → Told told w → Told (one_told (f a) told) (on_two g (Ok a) w)
    right None t = tt
    right (Some (Err why)) t = ap (on_two g (Ok a)) t
    right (Some (Ok b)) t = subst (λ (x : Value). Told (f a b) (on_two g (Ok a) x)) t (fits a b)

module _ (r : CodeInputs) where
  -- From the first of these ops on a machine goes behind the last, with the value on its cells, or ends with its refusal;
  -- or it is stuck.
  pub record Computes (start : ℕ) (ops : List Op) (v : Value) : Type 0 where
    pub told : Option Value
    pub is : Told told v
    pub by : (rest : List Op) (cells : List Cell) → going r start (ops ++ rest) (start, cells) ≡ then_on (going r (start + length ops) rest) (stood (start + length ops) cells told)

  -- an op at its place
  pub at_place : (at : ℕ) (op : Op) (rest : List Op) (cells : List Cell) → going r at (op ∷ rest) (at, cells) ≡ then_on (going r (at + 1) rest) (turn r at op cells)
  at_place at op rest cells =
      ap (λ (t : Truth). cond t (then_on (going r (at + 1) rest) (turn r at op cells)) (going r (at + 1) rest (at, cells))) (eq-eqb at at refl)

  -- an op that is passed over
  pub passed_over : (at to : ℕ) (op : Op) (rest : List Op) (cells : List Cell) → at < to → going r at (op ∷ rest) (to, cells) ≡ going r (at + 1) rest (to, cells)
  passed_over at to op rest cells less =
      ap (λ (t : Truth). cond t (then_on (going r (at + 1) rest) (turn r at op cells)) (going r (at + 1) rest (to, cells))) (ne_eqb at to (λ same. absurd (omega (arith, same, less))))

  -- ops that are passed over
  pub skipped : (ops rest : List Op) (at to : ℕ) (cells : List Cell) → at + length ops ≤ to → going r at (ops ++ rest) (to, cells) ≡ going r (at + length ops) rest (to, cells)
  skipped [] rest at to cells h = let e : at ≡ at + 0 = omega arith in ap (λ (n : ℕ). going r n rest (to, cells)) e
  skipped (op ∷ ops) rest at to cells h =
      let less : at < to = omega (arith, h) in
      let further : at + 1 + length ops ≤ to = omega (arith, h) in
      let e : at + 1 + length ops ≡ at + suc (length ops) = omega arith in
      passed_over at to op (ops ++ rest) cells less ∙ skipped ops rest (at + 1) to cells further ∙ ap (λ (n : ℕ). going r n rest (to, cells)) e

  -- ---- one op

  pub op_computes : (start : ℕ) (op : Op) (told : Option Value) (v : Value) → Told told v → ((cells : List Cell) → turn r start op cells ≡ stood (start + 1) cells told) → Computes start (op ∷ []) v
  op_computes start op told v is turns = record {
    told = told;
    is = is;
    by = λ rest cells. at_place start op rest cells ∙ ap (then_on (going r (start + 1) rest)) (turns cells);
  }

  -- ---- an operand and an op

  pub one_computes : (start : ℕ) (ops : List Op) (op : Op) (v : Value) (f : Cell → Option Value) (g : Cell → Value) → ((a : Cell) → Told (f a) (g a)) → ((at : ℕ) (cells : List Cell) (a : Cell) → turn r at op (a ∷ cells) ≡ stood (at + 1) cells (f a)) → Computes start ops v → Computes start (ops ++ op ∷ []) (on_one g v)
  one_computes start ops op v f g fits turns c =
      let mid : ℕ = start + length ops in
      let len : start + length ops + 1 ≡ start + length (ops ++ op ∷ []) = omega (arith, length-append ops (op ∷ [])) in
      record {
        told = one_told f c.told;
        is = told_one f g c.told v fits c.is;
        by = λ rest cells.
            ap (λ (xs : List Op). going r start xs (start, cells)) (append_assoc ops (op ∷ []) rest)
            ∙ c.by (op ∷ rest) cells
            ∙ onward mid rest cells c.told
            ∙ ap (λ (n : ℕ). then_on (going r n rest) (stood n cells (one_told f c.told))) len;
      }
    where
      onward : (at : ℕ) (rest : List Op) (cells : List Cell) (told : Option Value) → then_on (going r at (op ∷ rest)) (stood at cells told) ≡ then_on (going r (at + 1) rest) (stood (at + 1) cells (one_told f told))
      onward at rest cells None = refl
      onward at rest cells (Some (Err why)) = refl
      onward at rest cells (Some (Ok a)) = at_place at op rest (a ∷ cells) ∙ ap (then_on (going r (at + 1) rest)) (turns at cells a)

  -- ---- two operands and an op

  pub two_computes : (start : ℕ) (left right : List Op) (op : Op) (v w : Value) (f : Cell → Cell → Option Value) (g : Cell → Cell → Value) → ((a b : Cell) → Told (f a b) (g a b)) → ((at : ℕ) (cells : List Cell) (a b : Cell) → turn r at op (b ∷ a ∷ cells) ≡ stood (at + 1) cells (f a b)) → Computes start left v → Computes (start + length left) right w → Computes start (left ++ (right ++ op ∷ [])) (on_two g v w)
  two_computes start left right op v w f g fits turns c d =
      let mid : ℕ = start + length left in
      let len : start + length left + length right + 1 ≡ start + length (left ++ (right ++ op ∷ [])) = omega (arith, length-append left (right ++ op ∷ []), length-append right (op ∷ [])) in
      record {
        told = two_told f c.told d.told;
        is = told_two f g c.told v d.told w fits c.is d.is;
        by = λ rest cells.
            ap (λ (xs : List Op). going r start xs (start, cells)) (append_assoc left (right ++ op ∷ []) rest ∙ ap (λ (xs : List Op). left ++ xs) (append_assoc right (op ∷ []) rest))
            ∙ c.by (right ++ op ∷ rest) cells
            ∙ onward rest cells c.told
            ∙ ap (λ (n : ℕ). then_on (going r n rest) (stood n cells (two_told f c.told d.told))) len;
      }
    where
      last : (rest : List Op) (cells : List Cell) (a : Cell) (told : Option Value) → then_on (going r (start + length left + length right) (op ∷ rest)) (stood (start + length left + length right) (a ∷ cells) told) ≡ then_on (going r (start + length left + length right + 1) rest) (stood (start + length left + length right + 1) cells (one_told (f a) told))
      last rest cells a None = refl
      last rest cells a (Some (Err why)) = refl
      last rest cells a (Some (Ok b)) =
          at_place (start + length left + length right) op rest (b ∷ a ∷ cells) ∙ ap (then_on (going r (start + length left + length right + 1) rest)) (turns (start + length left + length right) cells a b)

      onward : (rest : List Op) (cells : List Cell) (told : Option Value) → then_on (going r (start + length left) (right ++ op ∷ rest)) (stood (start + length left) cells told) ≡ then_on (going r (start + length left + length right + 1) rest) (stood (start + length left + length right + 1) cells (two_told f told d.told))
      onward rest cells None = refl
      onward rest cells (Some (Err why)) = refl
      onward rest cells (Some (Ok a)) = d.by (op ∷ rest) (a ∷ cells) ∙ last rest cells a d.told
