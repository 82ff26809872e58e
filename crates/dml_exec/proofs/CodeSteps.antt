-- A run of accepted code, step by step.
use Rattle.std.proofs.Common.{◌≡◌, ◌∙◌, ℕ, zero, suc, ◌+◌, ◌-◌, ◌<◌, ◌≤◌, Bool as Truth, false, ◌||◌, cond, eqb, eq-eqb, List, [], ◌∷◌, ◌++◌, length, drop, Some, None, Ok, Err, refl, sym, ap, subst, inl, inr, ⊎_elim, arith, add-one}
use Rattle.std.specs.Bool.{IsTrue}
use Rattle.std.specs.List.{slice_get}
use Rattle.std.proofs.lemmas.Bool.{false≢true, or_cases, or_left, or_right, eqb-true, ne_eqb, cases_eq, cases_lt, cases_Bool}
use Rattle.std.proofs.lemmas.List.Folds.{list_any-append}
use Rattle.std.proofs.lemmas.Option.{slice_get_within, get_or_from_slice_get}
use Rattle.aw_cell.specs.declared.cell.Cell.{Cell}
use Rattle.aw_cell.specs.declared.cell.Kind.{Kind}
use Rattle.aw_cell.specs.declared.number.Arith.{Arith}
use Rattle.dml_exec.specs.declared.code.Code.{Code}
use Rattle.dml_exec.specs.declared.flow.Way.{Way}
use Rattle.dml_exec.specs.declared.flow.Way.TheVariants.{Next, Leap, Fork}
use Rattle.dml_exec.specs.declared.kinds.Kinds.{Kinds}
use Rattle.dml_exec.specs.declared.op.Op.{Op}
use Rattle.dml_exec.specs.declared.op.Op.TheVariants.{Local}
use Rattle.dml_exec.specs.Free.{is_among, with_one, with_all, free_in, free_in_op}
use Rattle.dml_exec.specs.Meaning.{CodeInputs, Outcome, turn, then_on, going, ended, sole, meaning}
use Rattle.dml_exec.specs.CodeRuns.{Accepts, Fits, CanRun, rules_for, EndsWith}
use Rattle.dml_exec.specs.Verified.{Rules, onward, Onward, GoesTo, Reaches}
use Rattle.dml_exec.specs.inside.MachineSteps.{AreOf, CanTurn, Stands}
use Rattle.dml_exec.proofs.ReachedPlaces.{lead-up}
use Rattle.dml_exec.proofs.OperatorKinds.{Of}
use Rattle.dml_exec.proofs.MachineSteps.{OpFits, Turned, turned, GoesAhead, goes-ahead}

-- ---- free dimensions

one-has : (free : List ℕ) (dimension : ℕ) → IsTrue (is_among (with_one free dimension) dimension)
one-has free dimension =
    ⊎_elim
    (λ yes. ap (λ (t : Truth). is_among (cond t free (free ++ dimension ∷ [])) dimension) yes ∙ yes)
    (λ no. ap (λ (t : Truth). is_among (cond t free (free ++ dimension ∷ [])) dimension) no ∙ list_any-append (λ other. eqb other dimension) free (dimension ∷ []) ∙ or_right (is_among free dimension) (eqb dimension dimension || false) (or_left (eqb dimension dimension) false (eq-eqb dimension dimension refl)))
    (cases_Bool (is_among free dimension))

one-keeps : (free : List ℕ) (dimension other : ℕ) → IsTrue (is_among free other) → IsTrue (is_among (with_one free dimension) other)
one-keeps free dimension other h =
    ⊎_elim
    (λ yes. ap (λ (t : Truth). is_among (cond t free (free ++ dimension ∷ [])) other) yes ∙ h)
    (λ no. ap (λ (t : Truth). is_among (cond t free (free ++ dimension ∷ [])) other) no ∙ list_any-append (λ it. eqb it other) free (dimension ∷ []) ∙ or_left (is_among free other) (eqb dimension other || false) h)
    (cases_Bool (is_among free dimension))

all-keeps : (free dimensions : List ℕ) (other : ℕ) → IsTrue (is_among free other) → IsTrue (is_among (with_all free dimensions) other)
all-keeps free [] other h = h
all-keeps free (d ∷ dimensions) other h = all-keeps (with_one free d) dimensions other (one-keeps free d other h)

all-has : (free dimensions : List ℕ) (other : ℕ) → IsTrue (is_among dimensions other) → IsTrue (is_among (with_all free dimensions) other)
all-has free [] other h = absurd (false≢true h)
all-has free (d ∷ dimensions) other h =
    ⊎_elim
    (λ here. all-keeps (with_one free d) dimensions other (subst (λ (n : ℕ). IsTrue (is_among (with_one free d) n)) (eqb-true d other here) (one-has free d)))
    (λ later. all-has (with_one free d) dimensions other later)
    (or_cases (eqb d other) (is_among dimensions other) h)

free-has : (ops : List Op) (at : ℕ) (op : Op) (dimension : ℕ) → slice_get ops at ≡ Some op → IsTrue (is_among (free_in_op op) dimension) → IsTrue (is_among (free_in ops) dimension)
free-has [] at op dimension is h = absurd (none-some op is)
  where
    none-some : {A : Type 0} (a : A) → None ≡ Some a → ⊥
    none-some a e = cc
free-has (first ∷ ops) zero op dimension is h =
    let same : first ≡ op = cc in
    list_any-append (λ other. eqb other dimension) (free_in_op first) (free_in ops) ∙ or_left (is_among (free_in_op first) dimension) (is_among (free_in ops) dimension) (subst (λ (o : Op). IsTrue (is_among (free_in_op o) dimension)) (sym same) h)
free-has (first ∷ ops) (suc at) op dimension is h =
    list_any-append (λ other. eqb other dimension) (free_in_op first) (free_in ops) ∙ or_right (is_among (free_in_op first) dimension) (is_among (free_in ops) dimension) (free-has ops at op dimension is h)

-- ---- what an op reads

op-fits : (kinds : Kinds) (code : Code) (r : CodeInputs) → Accepts kinds code → Fits kinds code r → (at : ℕ) (op : Op) → slice_get code.ops at ≡ Some op → OpFits (rules_for kinds code) r op
op-fits kinds code r accepted fits at op is = record {
  places = λ dimension h. fits.places dimension (subst (λ (free : List ℕ). IsTrue (is_among free dimension)) (sym accepted.free) (all-has [] (free_in code.ops) dimension (free-has code.ops at op dimension is h)));
  fixed = fits.fixed;
  locals = λ number kind e here.
      let it : slice_get code.ops at ≡ Some (Local number) = is ∙ ap Some e in
      fits.locals number kind (at, slice_get_within code.ops at (Local number) it, get_or_from_slice_get code.ops at (Local number) (Local number) it) here;
  cells = fits.cells;
  names = fits.names;
}

-- ---- passing over

drop-at : {A : Type 0} (xs : List A) (at : ℕ) (x : A) → slice_get xs at ≡ Some x → drop at xs ≡ x ∷ drop (suc at) xs
drop-at [] at x is = absurd (cc)
drop-at (y ∷ xs) zero x is = let same : y ≡ x = cc in ap (λ z. z ∷ xs) same
drop-at (y ∷ xs) (suc at) x is = drop-at xs at x is

drop-past : {A : Type 0} (xs : List A) (at : ℕ) → length xs ≤ at → drop at xs ≡ []
drop-past [] zero h = refl
drop-past [] (suc at) h = refl
drop-past (x ∷ xs) zero h = absurd (omega arith)
drop-past (x ∷ xs) (suc at) h = drop-past xs at (omega arith)

pub there : {A : Type 0} (xs : List A) (at : ℕ) → at < length xs → (x : A) × (slice_get xs at ≡ Some x)
there [] at h = absurd (omega arith)
there (x ∷ xs) zero h = (x, refl)
there (x ∷ xs) (suc at) h = there xs at (omega arith)

pub passed : (r : CodeInputs) (ops : List Op) (cells : List Cell) (to more at : ℕ) → at + more ≡ to → going r at (drop at ops) (to, cells) ≡ going r to (drop to ops) (to, cells)
passed r ops cells to zero at e = let same : at ≡ to = omega arith in ap (λ (n : ℕ). going r n (drop n ops) (to, cells)) same
passed r ops cells to (suc more) at e =
    ⊎_elim
    (λ within.
    let op = there ops at within in
    let other : eqb at to ≡ false = ne_eqb at to (λ same. absurd (omega arith)) in
    ap (λ (xs : List Op). going r at xs (to, cells)) (drop-at ops at op.0 op.1)
    ∙ ap (λ (t : Truth). cond t (then_on (going r (at + 1) (drop (suc at) ops)) (turn r at op.0 cells)) (going r (at + 1) (drop (suc at) ops) (to, cells))) other
    ∙ ap (λ (n : ℕ). going r n (drop (suc at) ops) (to, cells)) (add-one at)
    ∙ passed r ops cells to more (suc at) (omega arith))
    (λ past.
    ap (λ (xs : List Op). going r at xs (to, cells)) (drop-past ops at past)
    ∙ sym (ap (λ (xs : List Op). going r to xs (to, cells)) (drop-past ops to (omega arith))))
    (cases_lt at (length ops))

-- the op at its place is taken
pub taken : (r : CodeInputs) (ops : List Op) (at : ℕ) (op : Op) (cells : List Cell) → slice_get ops at ≡ Some op → going r at (drop at ops) (at, cells) ≡ then_on (going r (at + 1) (drop (suc at) ops)) (turn r at op cells)
taken r ops at op cells is =
    ap (λ (xs : List Op). going r at xs (at, cells)) (drop-at ops at op is)
    ∙ ap (λ (t : Truth). cond t (then_on (going r (at + 1) (drop (suc at) ops)) (turn r at op cells)) (going r (at + 1) (drop (suc at) ops) (at, cells))) (eq-eqb at at refl)

-- ---- a step

abbrev Goes : Type 0
Goes = Way × List Kind

pub some-of : (onward : Onward) → (onward ≡ None → ⊥) → (goes : Goes) × (onward ≡ Some goes)
some-of None h = absurd (h refl)
some-of (Some goes) h = (goes, refl)

pub ahead : (count at place : ℕ) (way : Way) → at < count → GoesAhead count at way → GoesTo at way place → (at < place) × (place ≤ count)
ahead count at place Next within h e = (omega arith, omega arith)
ahead count at place (Leap to) within h e = (omega arith, omega arith)
ahead count at place (Fork at_no at_na) within h e = ⊎_elim (λ is. (omega (arith, h.0.0), omega (arith, h.0.1))) (λ more. ⊎_elim (λ is. (omega (arith, h.1.0), omega (arith, h.1.1))) (λ is. (omega arith, omega arith)) more) e

same-length : (kinds : List Kind) (cells : List Cell) → AreOf kinds cells → length cells ≡ length kinds
same-length [] [] are = refl
same-length [] (cell ∷ cells) are = absurd are
same-length (kind ∷ kinds) [] are = absurd are
same-length (kind ∷ kinds) (cell ∷ cells) are = ap suc (same-length kinds cells are.1)

-- what an op does where accepted code stands
pub record Steps (kinds : Kinds) (code : Code) (r : CodeInputs) (at : ℕ) (op : Op) (cells : List Cell) : Type 0 where
  pub way : Way
  pub after : List Kind
  pub turns : Turned at way after (turn r at op cells)
  pub goes_ahead : GoesAhead (length code.ops) at way
  pub leads : (place : ℕ) → GoesTo at way place → Reaches (rules_for kinds code) place after

pub steps : (kinds : Kinds) (code : Code) (r : CodeInputs) → Accepts kinds code → Fits kinds code r → (at : ℕ) (op : Op) (stack : List Kind) (cells : List Cell) → slice_get code.ops at ≡ Some op → Reaches (rules_for kinds code) at stack → AreOf stack cells → Steps kinds code r at op cells
steps kinds code r accepted fits at op stack cells is reached are =
    let rules : Rules = rules_for kinds code in
    let within : at < length code.ops = slice_get_within code.ops at op is in
    let fine : onward rules at op stack ≡ None → ⊥ = λ stuck. accepted.sound.ops at (inl (record { op = op; stack = stack; here = is; reached = reached; stuck = stuck })) in
    let on = some-of (onward rules at op stack) fine in
    let goes : onward rules at op stack ≡ Some (on.0.0, on.0.1) = on.1 in
    let far : GoesAhead (length code.ops) at on.0.0 = goes-ahead rules at op stack on.0.0 on.0.1 goes in
    record {
      way = on.0.0;
      after = on.0.1;
      turns = turned rules r at op stack cells on.0.0 on.0.1 (op-fits kinds code r accepted fits at op is) goes are;
      goes_ahead = far;
      leads = λ place to. lead-up rules place (suc at) place on.0.1 (let less = ahead (length code.ops) at place on.0.0 within far to in omega (arith, less.0)) (inr (stack, reached, record { op = op; way = on.0.0; here = is; takes = goes; there = to }));
    }

-- ---- where a run stands

module _ (code : Code) (r : CodeInputs) (may_read : ℕ → List ℕ → Type 0) (may_name : ℕ → ℕ → Type 0) where
  abbrev At : ℕ → List Cell → Type 0
  At next cells = Stands code r may_read may_name next cells

  pub stands-first : CanRun code r may_read may_name → At 0 []
  stands-first can = record { can = can; within = omega arith; stack = []; reached = (refl, refl); cells_are = tt; same = refl }

  step-of : (next : ℕ) (cells : List Cell) (op : Op) (s : At next cells) → slice_get code.ops next ≡ Some op → Steps s.can.kinds code r next op cells
  step-of next cells op s is = steps s.can.kinds code r s.can.accepted s.can.fits next op s.stack cells is s.reached s.cells_are

  roomy : (kinds : Kinds) (room at : ℕ) (way : Way) (after : List Kind) (outcome : Outcome) → Accepts kinds code → code.deepest ≤ room → ((place : ℕ) → GoesTo at way place → Reaches (rules_for kinds code) place after) → Turned at way after outcome → CanTurn room outcome
  roomy kinds room at way after None accepted h leads t = t
  roomy kinds room at way after (Some (Ok standing)) accepted h leads t =
      let deep : length after ≤ code.deepest = accepted.deepest standing.0 after (leads standing.0 t.0) in
      let len : length standing.1 ≡ length after = same-length after standing.1 t.1 in omega arith
  roomy kinds room at way after (Some (Err why)) accepted h leads t = tt

  -- the next op isn't stuck, and there is room
  pub stands-turns : (room next : ℕ) (cells : List Cell) (op : Op) → code.deepest ≤ room → At next cells → slice_get code.ops next ≡ Some op → CanTurn room (turn r next op cells)
  stands-turns room next cells op h s is =
      let step = step-of next cells op s is in
      roomy s.can.kinds room next step.way step.after (turn r next op cells) s.can.accepted h step.leads step.turns

  -- where it goes on
  pub stands-on : (next : ℕ) (cells : List Cell) (op : Op) (place : ℕ) (left : List Cell) → At next cells → slice_get code.ops next ≡ Some op → turn r next op cells ≡ Some (Ok (place, left)) → At place left × (next < place)
  stands-on next cells op place left s is e =
      let step = step-of next cells op s is in
      let within : next < length code.ops = slice_get_within code.ops next op is in
      let t : Turned next step.way step.after (Some (Ok (place, left))) = subst (Turned next step.way step.after) e step.turns in
      let less = ahead (length code.ops) next place step.way within step.goes_ahead t.0 in (
        record {
          can = s.can;
          within = less.1;
          stack = step.after;
          reached = step.leads place t.0;
          cells_are = t.1;
          same = s.same ∙ taken r code.ops next op cells is ∙ ap (then_on (going r (next + 1) (drop (suc next) code.ops))) e
              ∙ ap (λ (n : ℕ). going r n (drop (suc next) code.ops) (place, left)) (add-one next)
              ∙ passed r code.ops left place (place - suc next) (suc next) (omega (arith, less.0));
        },
        less.0,
      )

  -- a refusal is the answer
  pub stands-refused : (next : ℕ) (cells : List Cell) (op : Op) (why : Arith) → At next cells → slice_get code.ops next ≡ Some op → turn r next op cells ≡ Some (Err why) → meaning r code.ops ≡ Some (Err why)
  stands-refused next cells op why s is e =
      ap (ended (length code.ops)) (s.same ∙ taken r code.ops next op cells is ∙ ap (then_on (going r (next + 1) (drop (suc next) code.ops))) e)

  sole-cell : (stack : List Kind) (cells : List Cell) → length stack ≡ 1 → AreOf stack cells → (kind : Kind) × (cell : Cell) × (stack ≡ kind ∷ []) × (cells ≡ cell ∷ []) × Of kind cell
  sole-cell [] cells one are = absurd (omega arith)
  sole-cell (kind ∷ []) [] one are = absurd are
  sole-cell (kind ∷ []) (cell ∷ []) one are = (kind, cell, refl, refl, are.0)
  sole-cell (kind ∷ []) (cell ∷ other ∷ cells) one are = absurd are.1
  sole-cell (kind ∷ other ∷ stack) cells one are = absurd (omega arith)

  -- at the end there is one cell, which is the answer
  pub stands-ended : (next : ℕ) (cells : List Cell) → (s : At next cells) → length code.ops ≤ next → (cell : Cell) × (cells ≡ cell ∷ []) × (meaning r code.ops ≡ Some (Ok cell)) × EndsWith (rules_for s.can.kinds code) cell
  stands-ended next cells s past =
      let end : next ≡ length code.ops = omega (arith, s.within) in
      let reached : Reaches (rules_for s.can.kinds code) (length code.ops) s.stack = subst (λ (n : ℕ). Reaches (rules_for s.can.kinds code) n s.stack) end s.reached in
      let one : length s.stack ≡ 1 = ⊎_elim (λ e. e) (λ many. absurd (s.can.accepted.sound.end (record { end = refl; stack = s.stack; reached = reached; many = many }))) (cases_eq (length s.stack) 1) in
      let sole_one = sole-cell s.stack cells one s.cells_are in
      let gone : going r 0 code.ops (0, []) ≡ Some (Ok (next, cells)) = s.same ∙ ap (λ (xs : List Op). going r next xs (next, cells)) (drop-past code.ops next past) in (
        sole_one.1,
        sole_one.3,
        ap (ended (length code.ops)) gone ∙ ap (λ (t : Truth). cond t (sole cells) None) (eq-eqb next (length code.ops) end) ∙ ap sole sole_one.3,
        record { kind = sole_one.0; reached = subst (Reaches (rules_for s.can.kinds code) (length code.ops)) sole_one.2 reached; of_kind = sole_one.4 },
      )
