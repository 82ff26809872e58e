-- The tree of an expression whose types fit is of its type, where its names are of theirs.
use Rattle.std.proofs.Common.{◌≡◌, ◌∙◌, ℕ, ◌&&◌, Bool as Truth, true, false, Option, Some, None, refl, sym, ap, subst}
use Rattle.std.specs.Prelude.{unwrap_or, if◌then◌else◌}
use Rattle.std.specs.Option.{option_map, option_and_then}
use Rattle.std.proofs.lemmas.Bool.{and_parts, false≢true}
use Rattle.aw_cell.specs.declared.cell.Cell.{Cell}
use Rattle.aw_cell.specs.declared.cell.Cell.TheVariants as cell
use Rattle.aw_cell.specs.declared.cell.Kind.{Kind}
use Rattle.aw_cell.specs.declared.cell.Kind.TheVariants.{Num as NUMBER, Int as INTEGER, Text as TEXT, Bool as BOOLEAN, Slot as SLOT}
use Rattle.aw_cell.specs.declared.comparison.Order.{Order}
use Rattle.aw_cell.specs.declared.comparison.Order.TheVariants as order
use Rattle.aw_page.specs.Fitting.{is_of_kind}
use Rattle.aw_schema.specs.Definitions.{is_type}
use Rattle.dml_tree.specs.declared.expr.Joint.{Joint}
use Rattle.dml_tree.specs.declared.expr.Joint.TheVariants as joint
use Rattle.dml_tree.specs.declared.expr.Target.{Target}
use Rattle.dml_tree.specs.declared.expr.Expr.{Expr, roll-Expr, map-Expr}
use Rattle.dml_tree.specs.declared.expr.Expr.TheOpen.{Expr-F}
use Rattle.dml_tree.specs.declared.expr.Expr.TheFolds.{fold-roll-Expr, ind-Expr}
use Rattle.dml_kinds.specs.declared.types.ValueType.{ValueType}
use Rattle.dml_kinds.specs.declared.types.ValueType.TheVariants.{Na, Of}
use Rattle.dml_kinds.specs.declared.tree.Tree.{Tree, roll-Tree, map-Tree}
use Rattle.dml_kinds.specs.declared.tree.Tree.TheOpen.{Tree-F}
use Rattle.dml_kinds.specs.declared.tree.Tree.TheFolds.{fold-roll-Tree}
use Rattle.dml_kinds.specs.declared.tree.Tree.TheVariants as tree
use Rattle.dml_kinds.specs.declared.tree.Tree.TheVariants.{rolls-Literal, rolls-Not, rolls-Negative, rolls-Abs, rolls-AsNumber, rolls-Joined, rolls-If}
use Rattle.dml_kinds.specs.declared.tree.Tree.TheViews.{outs-Literal, outs-Not, outs-Negative, outs-Abs, outs-Joined, outs-If}
use Rattle.dml_kinds.specs.Meanings.{Names, kind_named}
use Rattle.dml_kinds.specs.Types.{Typing, is_number, is_truth, only_if, number_type, compares_truths, is_comparable, common_type, joint_type, negated_type, size_type, choice_type, from_two, from_three, level_type, type_of}
use Rattle.dml_kinds.specs.Trees.{cell_type, level_kind, tree_type, common, or_integer, number_kind, meeting, joined_type, fitted_to, fitted, joined, chosen, target_tree, level_tree, tree_of}
use Rattle.dml_exec.specs.declared.kinds.Kinds.{Kinds}
use Rattle.dml_exec.specs.Operators.{when, is_number as is_number_kind, are_numbers, are_alike, can_compare}
use Rattle.dml_compile.specs.TreeKinds.{same_kind, is_kind, wanted_in, joined_is, level_is, tree_is}
use Rattle.dml_compile.proofs.SoundTrees.{same_is}

-- a type may be asked for as a kind
abbrev pub fits_type : ValueType → Kind → Truth
fits_type Na kind = is_type kind
fits_type (Of own) kind = same_kind own kind

-- a type of the language
abbrev pub is_value_type : ValueType → Truth
is_value_type Na = true
is_value_type (Of kind) = is_type kind

-- a type goes into one that is wanted
abbrev goes_into : ValueType → ValueType → Truth
goes_into Na wanted = true
goes_into (Of INTEGER) (Of NUMBER) = true
goes_into (Of own) (Of wanted) = same_kind own wanted
goes_into (Of own) Na = false

no_truth : {A : Type 0} → false ≡ true → A
no_truth e = absurd (false≢true e)

some_same : (one other : ValueType) → Some one ≡ Some other → one ≡ other
some_same one other e = ap (λ (o : Option ValueType). unwrap_or o one) e

no_type : {A : Type 0} (type : ValueType) → None ≡ Some type → A
no_type type e = absurd (cc)

only_holds : (t : Truth) (kind : Kind) (type : ValueType) → only_if t kind ≡ Some type → (t ≡ true) × (Of kind ≡ type)
only_holds true kind type e = (refl, some_same (Of kind) type e)
only_holds false kind type e = no_type type e

-- ---- the joints

abbrev is_number_type : ValueType → Truth
is_number_type (Of kind) = is_number_kind kind
is_number_type Na = false

record NumbersMeet (one other type : ValueType) : Type 0 where
  left : goes_into one (or_integer (common one other)) ≡ true
  right : goes_into other (or_integer (common one other)) ≡ true
  same : or_integer (common one other) ≡ type
  number : is_number_type (or_integer (common one other)) ≡ true

abbrev met_as : (one other type : ValueType) → goes_into one (or_integer (common one other)) ≡ true → goes_into other (or_integer (common one other)) ≡ true → or_integer (common one other) ≡ type → is_number_type (or_integer (common one other)) ≡ true → NumbersMeet one other type
met_as one other type l r s n = record { left = l; right = r; same = s; number = n }

numbers_meet : (one other type : ValueType) → number_type one other ≡ Some type → NumbersMeet one other type
numbers_meet Na Na type e = met_as Na Na type refl refl (some_same (Of INTEGER) type e) refl
numbers_meet Na (Of INTEGER) type e = met_as Na (Of INTEGER) type refl refl (some_same (Of INTEGER) type e) refl
numbers_meet Na (Of NUMBER) type e = met_as Na (Of NUMBER) type refl refl (some_same (Of NUMBER) type e) refl
numbers_meet (Of INTEGER) Na type e = met_as (Of INTEGER) Na type refl refl (some_same (Of INTEGER) type e) refl
numbers_meet (Of NUMBER) Na type e = met_as (Of NUMBER) Na type refl refl (some_same (Of NUMBER) type e) refl
numbers_meet (Of INTEGER) (Of INTEGER) type e = met_as (Of INTEGER) (Of INTEGER) type refl refl (some_same (Of INTEGER) type e) refl
numbers_meet (Of INTEGER) (Of NUMBER) type e = met_as (Of INTEGER) (Of NUMBER) type refl refl (some_same (Of NUMBER) type e) refl
numbers_meet (Of NUMBER) (Of INTEGER) type e = met_as (Of NUMBER) (Of INTEGER) type refl refl (some_same (Of NUMBER) type e) refl
numbers_meet (Of NUMBER) (Of NUMBER) type e = met_as (Of NUMBER) (Of NUMBER) type refl refl (some_same (Of NUMBER) type e) refl
numbers_meet _ _ type e = no_type type e

-- what is asked of the operands, and that the operator takes them
abbrev Asked : Joint → Kind → ValueType → Kind → Type 0
Asked j kind met own = (is_type own ≡ true) × (fits_type met own ≡ true) × (joined_is j kind own ≡ true)

record Meets (j : Joint) (one other type : ValueType) : Type 0 where
  left : goes_into one (meeting j one other) ≡ true
  right : goes_into other (meeting j one other) ≡ true
  same : joined_type j (meeting j one other) ≡ type
  language : is_value_type type ≡ true
  is : (kind : Kind) → fits_type type kind ≡ true → Asked j kind (meeting j one other) (wanted_in (meeting j one other) kind)

number_language : (met type : ValueType) → met ≡ type → is_number_type met ≡ true → is_value_type type ≡ true
number_language met type same is = subst (λ (t : ValueType). is_value_type t ≡ true) same (by met is)
  where
    by : (met : ValueType) → is_number_type met ≡ true → is_value_type met ≡ true
    by (Of NUMBER) e = refl
    by (Of INTEGER) e = refl
    by _ e = no_truth e

number_is : (met type : ValueType) → met ≡ type → is_number_type met ≡ true → (kind : Kind) → fits_type type kind ≡ true → (is_type (wanted_in met kind) ≡ true) × (fits_type met (wanted_in met kind) ≡ true) × (is_kind kind (when (are_numbers (wanted_in met kind) (wanted_in met kind)) (wanted_in met kind)) ≡ true)
number_is met type same is kind fits = by met is (subst (λ (t : ValueType). fits_type t kind ≡ true) (sym same) fits)
  where
    by : (met : ValueType) → is_number_type met ≡ true → fits_type met kind ≡ true → (is_type (wanted_in met kind) ≡ true) × (fits_type met (wanted_in met kind) ≡ true) × (is_kind kind (when (are_numbers (wanted_in met kind) (wanted_in met kind)) (wanted_in met kind)) ≡ true)
    by (Of NUMBER) e f = (refl, refl, f)
    by (Of INTEGER) e f = (refl, refl, f)
    by _ e f = no_truth e

number_goes : (type : ValueType) → is_number type ≡ true → goes_into type (Of NUMBER) ≡ true
number_goes Na e = refl
number_goes (Of NUMBER) e = refl
number_goes (Of INTEGER) e = refl
number_goes _ e = no_truth e

truth_goes : (type : ValueType) → is_truth type ≡ true → goes_into type (Of BOOLEAN) ≡ true
truth_goes Na e = refl
truth_goes (Of BOOLEAN) e = refl
truth_goes _ e = no_truth e

-- ---- comparisons

numbers_compare : (o : Order) → can_compare o NUMBER NUMBER ≡ true
numbers_compare order.Eq = refl
numbers_compare order.Ne = refl
numbers_compare _ = refl

integers_compare : (o : Order) → can_compare o INTEGER INTEGER ≡ true
integers_compare order.Eq = refl
integers_compare order.Ne = refl
integers_compare _ = refl

texts_compare : (o : Order) → can_compare o TEXT TEXT ≡ true
texts_compare order.Eq = refl
texts_compare order.Ne = refl
texts_compare _ = refl

truths_compare : (o : Order) → compares_truths o ≡ true → can_compare o BOOLEAN BOOLEAN ≡ true
truths_compare order.Eq e = refl
truths_compare order.Ne e = refl
truths_compare _ e = no_truth e

-- a type in which two meet that are compared
abbrev comparable_in : Order → ValueType → Truth
comparable_in o Na = false
comparable_in o (Of kind) = is_type kind && can_compare o kind kind

record ComparesMeet (o : Order) (one other : ValueType) : Type 0 where
  left : goes_into one (or_integer (common one other)) ≡ true
  right : goes_into other (or_integer (common one other)) ≡ true
  can : comparable_in o (or_integer (common one other)) ≡ true

compares_meet : (o : Order) (one other : ValueType) → is_comparable o one other ≡ true → ComparesMeet o one other
compares_meet o Na Na e = record { left = refl; right = refl; can = integers_compare o }
compares_meet o Na (Of INTEGER) e = record { left = refl; right = refl; can = integers_compare o }
compares_meet o Na (Of NUMBER) e = record { left = refl; right = refl; can = numbers_compare o }
compares_meet o Na (Of TEXT) e = record { left = refl; right = refl; can = texts_compare o }
compares_meet o Na (Of BOOLEAN) e = record { left = refl; right = refl; can = truths_compare o e }
compares_meet o (Of INTEGER) Na e = record { left = refl; right = refl; can = integers_compare o }
compares_meet o (Of NUMBER) Na e = record { left = refl; right = refl; can = numbers_compare o }
compares_meet o (Of TEXT) Na e = record { left = refl; right = refl; can = texts_compare o }
compares_meet o (Of BOOLEAN) Na e = record { left = refl; right = refl; can = truths_compare o e }
compares_meet o (Of INTEGER) (Of INTEGER) e = record { left = refl; right = refl; can = integers_compare o }
compares_meet o (Of INTEGER) (Of NUMBER) e = record { left = refl; right = refl; can = numbers_compare o }
compares_meet o (Of NUMBER) (Of INTEGER) e = record { left = refl; right = refl; can = numbers_compare o }
compares_meet o (Of NUMBER) (Of NUMBER) e = record { left = refl; right = refl; can = numbers_compare o }
compares_meet o (Of TEXT) (Of TEXT) e = record { left = refl; right = refl; can = texts_compare o }
compares_meet o (Of BOOLEAN) (Of BOOLEAN) e = record { left = refl; right = refl; can = truths_compare o e }
compares_meet o _ _ e = no_truth e

compare_is : (o : Order) (met : ValueType) → comparable_in o met ≡ true → (kind : Kind) → same_kind BOOLEAN kind ≡ true → Asked (joint.Compare o) kind met (wanted_in met kind)
compare_is o Na e kind f = no_truth e
compare_is o (Of own) e kind f =
    let both = and_parts (is_type own) (can_compare o own own) e in
    (both.0, same_itself own, ap (λ (t : Truth). is_kind kind (when t BOOLEAN)) both.1 ∙ f)
  where
    same_itself : (kind : Kind) → same_kind kind kind ≡ true
    same_itself NUMBER = refl
    same_itself INTEGER = refl
    same_itself TEXT = refl
    same_itself BOOLEAN = refl
    same_itself SLOT = refl

-- ---- types that meet as they are

record CommonMeets (one other type : ValueType) : Type 0 where
  left : goes_into one (common one other) ≡ true
  right : goes_into other (common one other) ≡ true
  same : common one other ≡ type

common_as : (one other type : ValueType) → goes_into one (common one other) ≡ true → goes_into other (common one other) ≡ true → common one other ≡ type → CommonMeets one other type
common_as one other type l r s = record { left = l; right = r; same = s }

common_meets : (one other type : ValueType) → common_type one other ≡ Some type → CommonMeets one other type
common_meets Na Na type e = common_as Na Na type refl refl (some_same Na type e)
common_meets Na (Of NUMBER) type e = common_as Na (Of NUMBER) type refl refl (some_same (Of NUMBER) type e)
common_meets Na (Of INTEGER) type e = common_as Na (Of INTEGER) type refl refl (some_same (Of INTEGER) type e)
common_meets Na (Of TEXT) type e = common_as Na (Of TEXT) type refl refl (some_same (Of TEXT) type e)
common_meets Na (Of BOOLEAN) type e = common_as Na (Of BOOLEAN) type refl refl (some_same (Of BOOLEAN) type e)
common_meets Na (Of SLOT) type e = common_as Na (Of SLOT) type refl refl (some_same (Of SLOT) type e)
common_meets (Of NUMBER) Na type e = common_as (Of NUMBER) Na type refl refl (some_same (Of NUMBER) type e)
common_meets (Of INTEGER) Na type e = common_as (Of INTEGER) Na type refl refl (some_same (Of INTEGER) type e)
common_meets (Of TEXT) Na type e = common_as (Of TEXT) Na type refl refl (some_same (Of TEXT) type e)
common_meets (Of BOOLEAN) Na type e = common_as (Of BOOLEAN) Na type refl refl (some_same (Of BOOLEAN) type e)
common_meets (Of SLOT) Na type e = common_as (Of SLOT) Na type refl refl (some_same (Of SLOT) type e)
common_meets (Of NUMBER) (Of NUMBER) type e = common_as (Of NUMBER) (Of NUMBER) type refl refl (some_same (Of NUMBER) type e)
common_meets (Of NUMBER) (Of INTEGER) type e = common_as (Of NUMBER) (Of INTEGER) type refl refl (some_same (Of NUMBER) type e)
common_meets (Of INTEGER) (Of NUMBER) type e = common_as (Of INTEGER) (Of NUMBER) type refl refl (some_same (Of NUMBER) type e)
common_meets (Of INTEGER) (Of INTEGER) type e = common_as (Of INTEGER) (Of INTEGER) type refl refl (some_same (Of INTEGER) type e)
common_meets (Of TEXT) (Of TEXT) type e = common_as (Of TEXT) (Of TEXT) type refl refl (some_same (Of TEXT) type e)
common_meets (Of BOOLEAN) (Of BOOLEAN) type e = common_as (Of BOOLEAN) (Of BOOLEAN) type refl refl (some_same (Of BOOLEAN) type e)
common_meets _ _ type e = no_type type e

common_language : (one other type : ValueType) → is_value_type one ≡ true → is_value_type other ≡ true → common_type one other ≡ Some type → is_value_type type ≡ true
common_language one other type l r e = let m = common_meets one other type e in subst (λ (t : ValueType). is_value_type t ≡ true) m.same (by one other l r)
  where
    by : (one other : ValueType) → is_value_type one ≡ true → is_value_type other ≡ true → is_value_type (common one other) ≡ true
    by Na other l r = r
    by (Of INTEGER) (Of NUMBER) l r = refl
    by _ _ l r = l

fill_is : (met : ValueType) → is_value_type met ≡ true → (kind : Kind) → fits_type met kind ≡ true → (is_type (wanted_in met kind) ≡ true) × (fits_type met (wanted_in met kind) ≡ true) × (is_kind kind (when (are_alike (wanted_in met kind) (wanted_in met kind)) (wanted_in met kind)) ≡ true)
fill_is Na l NUMBER f = (refl, refl, refl)
fill_is Na l INTEGER f = (refl, refl, refl)
fill_is Na l TEXT f = (refl, refl, refl)
fill_is Na l BOOLEAN f = (refl, refl, refl)
fill_is Na l SLOT f = no_truth f
fill_is (Of NUMBER) l kind f = (refl, refl, f)
fill_is (Of INTEGER) l kind f = (refl, refl, f)
fill_is (Of TEXT) l kind f = (refl, refl, f)
fill_is (Of BOOLEAN) l kind f = (refl, refl, f)
fill_is (Of SLOT) l kind f = no_truth l

-- ---- each joint

numbers_as : (one other type : ValueType) → number_type one other ≡ Some type → is_value_type type ≡ true
numbers_as one other type e = let n = numbers_meet one other type e in number_language (or_integer (common one other)) type n.same n.number

joint_meets : (j : Joint) (one other type : ValueType) → is_value_type one ≡ true → is_value_type other ≡ true → joint_type j one other ≡ Some type → Meets j one other type
joint_meets joint.Or one other type l r e =
    let h = only_holds (is_truth one && is_truth other) BOOLEAN type e in
    let both = and_parts (is_truth one) (is_truth other) h.0 in
    record {
      left = truth_goes one both.0;
      right = truth_goes other both.1;
      same = h.1;
      language = subst (λ (t : ValueType). is_value_type t ≡ true) h.1 refl;
      is = λ kind f. (refl, refl, subst (λ (t : ValueType). fits_type t kind ≡ true) (sym h.1) f);
    }
joint_meets joint.And one other type l r e =
    let h = only_holds (is_truth one && is_truth other) BOOLEAN type e in
    let both = and_parts (is_truth one) (is_truth other) h.0 in
    record {
      left = truth_goes one both.0;
      right = truth_goes other both.1;
      same = h.1;
      language = subst (λ (t : ValueType). is_value_type t ≡ true) h.1 refl;
      is = λ kind f. (refl, refl, subst (λ (t : ValueType). fits_type t kind ≡ true) (sym h.1) f);
    }
joint_meets (joint.Compare o) one other type l r e =
    let h = only_holds (is_comparable o one other) BOOLEAN type e in
    let m = compares_meet o one other h.0 in
    record {
      left = m.left;
      right = m.right;
      same = h.1;
      language = subst (λ (t : ValueType). is_value_type t ≡ true) h.1 refl;
      is = λ kind f. compare_is o (or_integer (common one other)) m.can kind (subst (λ (t : ValueType). fits_type t kind ≡ true) (sym h.1) f);
    }
joint_meets joint.Add one other type l r e =
    let n = numbers_meet one other type e in
    record { left = n.left; right = n.right; same = n.same; language = numbers_as one other type e; is = number_is (or_integer (common one other)) type n.same n.number }
joint_meets joint.Sub one other type l r e =
    let n = numbers_meet one other type e in
    record { left = n.left; right = n.right; same = n.same; language = numbers_as one other type e; is = number_is (or_integer (common one other)) type n.same n.number }
joint_meets joint.Mul one other type l r e =
    let n = numbers_meet one other type e in
    record { left = n.left; right = n.right; same = n.same; language = numbers_as one other type e; is = number_is (or_integer (common one other)) type n.same n.number }
joint_meets joint.Min one other type l r e =
    let n = numbers_meet one other type e in
    record { left = n.left; right = n.right; same = n.same; language = numbers_as one other type e; is = number_is (or_integer (common one other)) type n.same n.number }
joint_meets joint.Max one other type l r e =
    let n = numbers_meet one other type e in
    record { left = n.left; right = n.right; same = n.same; language = numbers_as one other type e; is = number_is (or_integer (common one other)) type n.same n.number }
joint_meets joint.Div one other type l r e =
    let h = only_holds (is_number one && is_number other) NUMBER type e in
    let both = and_parts (is_number one) (is_number other) h.0 in
    record {
      left = number_goes one both.0;
      right = number_goes other both.1;
      same = h.1;
      language = subst (λ (t : ValueType). is_value_type t ≡ true) h.1 refl;
      is = λ kind f. (refl, refl, subst (λ (t : ValueType). fits_type t kind ≡ true) (sym h.1) f);
    }
joint_meets joint.NaFill one other type l r e =
    let m = common_meets one other type e in
    let language = common_language one other type l r e in
    let met : is_value_type (common one other) ≡ true = subst (λ (t : ValueType). is_value_type t ≡ true) (sym m.same) language in
    record {
      left = m.left;
      right = m.right;
      same = m.same;
      language = language;
      is = λ kind f. fill_is (common one other) met kind (subst (λ (t : ValueType). fits_type t kind ≡ true) (sym m.same) f);
    }

-- ---- trees

truth_fits : (type : ValueType) → is_truth type ≡ true → fits_type type BOOLEAN ≡ true
truth_fits Na e = refl
truth_fits (Of BOOLEAN) e = refl
truth_fits _ e = no_truth e

size_is : (one type : ValueType) → size_type one ≡ Some type → (fits_type one (number_kind one) ≡ true) × (Of (number_kind one) ≡ type) × (is_number_kind (number_kind one) ≡ true)
size_is Na type e = (refl, some_same (Of INTEGER) type e, refl)
size_is (Of INTEGER) type e = (refl, some_same (Of INTEGER) type e, refl)
size_is (Of NUMBER) type e = (refl, some_same (Of NUMBER) type e, refl)
size_is _ type e = no_type type e

both_true : (one other : Truth) → one ≡ true → other ≡ true → (one && other) ≡ true
both_true one other e f = ap (λ (t : Truth). t && other) e ∙ f

na_is : (kind : Kind) → is_of_kind kind cell.Na ≡ true
na_is NUMBER = refl
na_is INTEGER = refl
na_is TEXT = refl
na_is BOOLEAN = refl
na_is SLOT = refl

same_wanted : (met : ValueType) (kind : Kind) → is_value_type met ≡ true → fits_type met kind ≡ true → same_kind (wanted_in met kind) kind ≡ true
same_wanted (Of own) kind l f = f
same_wanted Na NUMBER l f = refl
same_wanted Na INTEGER l f = refl
same_wanted Na TEXT l f = refl
same_wanted Na BOOLEAN l f = refl
same_wanted Na SLOT l f = no_truth f

and_then_parts : (f : ValueType → Typing) (o : Typing) (type : ValueType) → option_and_then f o ≡ Some type → (one : ValueType) × (o ≡ Some one) × (f one ≡ Some type)
and_then_parts f None type e = no_type type e
and_then_parts f (Some one) type e = (one, refl, e)

two_parts : (f : ValueType → ValueType → Typing) (o p : Typing) (type : ValueType) → from_two f o p ≡ Some type → (one : ValueType) × (other : ValueType) × (o ≡ Some one) × (p ≡ Some other) × (f one other ≡ Some type)
two_parts f None p type e = no_type type e
two_parts f (Some one) None type e = no_type type e
two_parts f (Some one) (Some other) type e = (one, other, refl, refl, e)

three_parts : (f : ValueType → ValueType → ValueType → Typing) (o p q : Typing) (type : ValueType) → from_three f o p q ≡ Some type → (one : ValueType) × (other : ValueType) × (third : ValueType) × (o ≡ Some one) × (p ≡ Some other) × (q ≡ Some third) × (f one other third ≡ Some type)
three_parts f None p q type e = no_type type e
three_parts f (Some one) None q type e = no_type type e
three_parts f (Some one) (Some other) None type e = no_type type e
three_parts f (Some one) (Some other) (Some third) type e = (one, other, third, refl, refl, refl, e)

choice_parts : (condition one other type : ValueType) → choice_type condition one other ≡ Some type → (is_truth condition ≡ true) × (common_type one other ≡ Some type)
choice_parts condition one other type e = by (is_truth condition) e
  where
    by : (t : Truth) → (if t then common_type one other else None) ≡ Some type → (t ≡ true) × (common_type one other ≡ Some type)
    by true e = (refl, e)
    by false e = no_type type e

module _ (kinds : Kinds) (formula : ℕ → Kind → Truth) where
  -- a tree is of a type, and of each kind as which it may be asked for
  pub record IsTyped (type : ValueType) (t : Tree) : Type 0 where
    pub same : tree_type t ≡ type
    pub language : is_value_type type ≡ true
    pub is : (kind : Kind) → fits_type type kind ≡ true → tree_is kinds formula t kind ≡ true

  abbrev parts_are : Tree-F Tree → Tree-F (Kind → Truth)
  parts_are x = map-Tree Tree (Kind → Truth) (tree_is kinds formula) x

  pub level_at : (x : Tree-F Tree) (t : Tree) (kind : Kind) → roll-Tree x ≡ t → level_is kinds formula (parts_are x) kind ≡ true → tree_is kinds formula t kind ≡ true
  level_at x t kind e h = ap (λ (f : Kind → Truth). f kind) (ap (tree_is kinds formula) (sym e) ∙ fold-roll-Tree (Kind → Truth) (level_is kinds formula) x) ∙ h

  -- ---- operands

  number_at : (t : Tree) (own : Kind) → tree_is kinds formula t INTEGER ≡ true → same_kind NUMBER own ≡ true → tree_is kinds formula (tree.AsNumber t) own ≡ true
  number_at t own e f = level_at (Tree-F.AsNumber t) (tree.AsNumber t) own (rolls-AsNumber t) (both_true (tree_is kinds formula t INTEGER) (same_kind NUMBER own) e f)

  same_other : (one other own : Kind) → same_kind one other ≡ true → same_kind other own ≡ true → same_kind one own ≡ true
  same_other one other own e f = subst (λ (k : Kind). same_kind k own ≡ true) (sym (same_is one other e)) f

  fitted_at : (type wanted : ValueType) (t : Tree) (own : Kind) → IsTyped type t → goes_into type wanted ≡ true → is_type own ≡ true → fits_type wanted own ≡ true → tree_is kinds formula (fitted_to wanted type t) own ≡ true
  fitted_at Na Na t own h goes l f = h.is own l
  fitted_at Na (Of NUMBER) t own h goes l f = h.is own l
  fitted_at Na (Of INTEGER) t own h goes l f = h.is own l
  fitted_at Na (Of TEXT) t own h goes l f = h.is own l
  fitted_at Na (Of BOOLEAN) t own h goes l f = h.is own l
  fitted_at Na (Of SLOT) t own h goes l f = h.is own l
  fitted_at (Of INTEGER) (Of NUMBER) t own h goes l f = number_at t own (h.is INTEGER refl) f
  fitted_at (Of NUMBER) (Of NUMBER) t own h goes l f = h.is own f
  fitted_at (Of INTEGER) (Of INTEGER) t own h goes l f = h.is own f
  fitted_at (Of TEXT) (Of TEXT) t own h goes l f = h.is own f
  fitted_at (Of BOOLEAN) (Of BOOLEAN) t own h goes l f = h.is own f
  fitted_at (Of SLOT) (Of SLOT) t own h goes l f = h.is own f
  fitted_at _ _ t own h goes l f = no_truth goes

  fitted_is : (type wanted : ValueType) (t : Tree) (own : Kind) → IsTyped type t → goes_into type wanted ≡ true → is_type own ≡ true → fits_type wanted own ≡ true → tree_is kinds formula (fitted wanted t) own ≡ true
  fitted_is type wanted t own h goes l f =
      ap (λ (u : ValueType). tree_is kinds formula (fitted_to wanted u t) own) h.same ∙ fitted_at type wanted t own h goes l f

  -- ---- levels

  literal_typed : (c : Cell) (own : Kind) (type : ValueType) → cell_type c ≡ Of own → is_type own ≡ true → is_of_kind own c ≡ true → Some (Of own) ≡ Some type → IsTyped type (tree.Literal c)
  literal_typed c own type is l of e = subst (λ (t : ValueType). IsTyped t (tree.Literal c)) (some_same (Of own) type e) (record {
    same = ap level_kind (outs-Literal c) ∙ is;
    language = l;
    is = λ kind f. level_at (Tree-F.Literal c) (tree.Literal c) kind (rolls-Literal c) (subst (λ (k : Kind). is_of_kind k c ≡ true) (same_is own kind f) of);
  })

  na_typed : (type : ValueType) → Some Na ≡ Some type → IsTyped type (tree.Literal cell.Na)
  na_typed type e = subst (λ (t : ValueType). IsTyped t (tree.Literal cell.Na)) (some_same Na type e) (record {
    same = ap level_kind (outs-Literal cell.Na);
    language = refl;
    is = λ kind f. level_at (Tree-F.Literal cell.Na) (tree.Literal cell.Na) kind (rolls-Literal cell.Na) (na_is kind);
  })

  not_typed : (t : Tree) (one type : ValueType) → IsTyped one t → negated_type one ≡ Some type → IsTyped type (tree.Not t)
  not_typed t one type h e =
      let only = only_holds (is_truth one && is_truth Na) BOOLEAN type e in
      let truth = (and_parts (is_truth one) (is_truth Na) only.0).0 in
      subst (λ (u : ValueType). IsTyped u (tree.Not t)) only.1 (record {
        same = ap level_kind (outs-Not t);
        language = refl;
        is = λ kind f. level_at (Tree-F.Not t) (tree.Not t) kind (rolls-Not t) (both_true (tree_is kinds formula t BOOLEAN) (same_kind BOOLEAN kind) (h.is BOOLEAN (truth_fits one truth)) f);
      })

  sized_is : (own kind : Kind) → is_number_kind own ≡ true → same_kind own kind ≡ true → is_kind kind (when (is_number_kind own) own) ≡ true
  sized_is own kind n f = ap (λ (t : Truth). is_kind kind (when t own)) n ∙ f

  number_type_is : (own : Kind) → is_number_kind own ≡ true → is_type own ≡ true
  number_type_is NUMBER n = refl
  number_type_is INTEGER n = refl
  number_type_is _ n = no_truth n

  negative_typed : (t : Tree) (one type : ValueType) → IsTyped one t → size_type one ≡ Some type → IsTyped type (tree.Negative (number_kind (tree_type t)) t)
  negative_typed t one type h e =
      let s = size_is one type e in
      let own : Kind = number_kind one in
      subst (λ (u : ValueType). IsTyped type (tree.Negative (number_kind u) t)) (sym h.same)
      (subst (λ (u : ValueType). IsTyped u (tree.Negative own t)) s.1 (record {
        same = ap level_kind (outs-Negative own t);
        language = number_type_is own s.2;
        is = λ kind f. level_at (Tree-F.Negative own t) (tree.Negative own t) kind (rolls-Negative own t) (both_true (tree_is kinds formula t own) (is_kind kind (when (is_number_kind own) own)) (h.is own s.0) (sized_is own kind s.2 f));
      }))

  abs_typed : (t : Tree) (one type : ValueType) → IsTyped one t → size_type one ≡ Some type → IsTyped type (tree.Abs (number_kind (tree_type t)) t)
  abs_typed t one type h e =
      let s = size_is one type e in
      let own : Kind = number_kind one in
      subst (λ (u : ValueType). IsTyped type (tree.Abs (number_kind u) t)) (sym h.same)
      (subst (λ (u : ValueType). IsTyped u (tree.Abs own t)) s.1 (record {
        same = ap level_kind (outs-Abs own t);
        language = number_type_is own s.2;
        is = λ kind f. level_at (Tree-F.Abs own t) (tree.Abs own t) kind (rolls-Abs own t) (both_true (tree_is kinds formula t own) (is_kind kind (when (is_number_kind own) own)) (h.is own s.0) (sized_is own kind s.2 f));
      }))

  joined_typed : (j : Joint) (left right : Tree) (one other type : ValueType) → IsTyped one left → IsTyped other right → joint_type j one other ≡ Some type → IsTyped type (joined j (meeting j (tree_type left) (tree_type right)) left right)
  joined_typed j left right one other type h k e =
      let m = joint_meets j one other type h.language k.language e in
      let met : ValueType = meeting j one other in
      subst (λ (u : ValueType). IsTyped type (joined j (meeting j u (tree_type right)) left right)) (sym h.same)
      (subst (λ (u : ValueType). IsTyped type (joined j (meeting j one u) left right)) (sym k.same) (record {
        same = ap level_kind (outs-Joined j met (fitted met left) (fitted met right)) ∙ m.same;
        language = m.language;
        is = λ kind f.
            let own : Kind = wanted_in met kind in
            let asked = m.is kind f in
            level_at (Tree-F.Joined j met (fitted met left) (fitted met right)) (joined j met left right) kind (rolls-Joined j met (fitted met left) (fitted met right))
            (both_true (tree_is kinds formula (fitted met left) own) (tree_is kinds formula (fitted met right) own && joined_is j kind own)
            (fitted_is one met left own h m.left asked.0 asked.1)
            (both_true (tree_is kinds formula (fitted met right) own) (joined_is j kind own) (fitted_is other met right own k m.right asked.0 asked.1) asked.2));
      }))

  chosen_typed : (condition first second : Tree) (test one other type : ValueType) → IsTyped test condition → IsTyped one first → IsTyped other second → choice_type test one other ≡ Some type → IsTyped type (chosen (common (tree_type first) (tree_type second)) condition first second)
  chosen_typed condition first second test one other type c h k e =
      let parts = choice_parts test one other type e in
      let m = common_meets one other type parts.1 in
      let language = common_language one other type h.language k.language parts.1 in
      let met : ValueType = common one other in
      let met_language : is_value_type met ≡ true = subst (λ (u : ValueType). is_value_type u ≡ true) (sym m.same) language in
      subst (λ (u : ValueType). IsTyped type (chosen (common u (tree_type second)) condition first second)) (sym h.same)
      (subst (λ (u : ValueType). IsTyped type (chosen (common one u) condition first second)) (sym k.same) (record {
        same = ap level_kind (outs-If met condition (fitted met first) (fitted met second)) ∙ m.same;
        language = language;
        is = λ kind f.
            let own : Kind = wanted_in met kind in
            let fits : fits_type met kind ≡ true = subst (λ (u : ValueType). fits_type u kind ≡ true) (sym m.same) f in
            let asked = fill_is met met_language kind fits in
            level_at (Tree-F.If met condition (fitted met first) (fitted met second)) (chosen met condition first second) kind (rolls-If met condition (fitted met first) (fitted met second))
            (both_true (tree_is kinds formula condition BOOLEAN) (tree_is kinds formula (fitted met first) own && (tree_is kinds formula (fitted met second) own && same_kind own kind))
            (c.is BOOLEAN (truth_fits test parts.0))
            (both_true (tree_is kinds formula (fitted met first) own) (tree_is kinds formula (fitted met second) own && same_kind own kind)
            (fitted_is one met first own h m.left asked.0 asked.1)
            (both_true (tree_is kinds formula (fitted met second) own) (same_kind own kind) (fitted_is other met second own k m.right asked.0 asked.1) (same_wanted met kind met_language fits))));
      }))

  -- ---- expressions, whose names are of their kinds

  module _ (names : Names) (named : (target : Target) (kind : Kind) → kind_named names target.name ≡ Some kind → IsTyped (Of kind) (target_tree names target)) where
    target_typed : (target : Target) (type : ValueType) → option_map Of (kind_named names target.name) ≡ Some type → IsTyped type (target_tree names target)
    target_typed target type e = by (kind_named names target.name) (named target) e
      where
        by : (o : Option Kind) → ((kind : Kind) → o ≡ Some kind → IsTyped (Of kind) (target_tree names target)) → option_map Of o ≡ Some type → IsTyped type (target_tree names target)
        by None of e = no_type type e
        by (Some kind) of e = subst (λ (u : ValueType). IsTyped u (target_tree names target)) (some_same (Of kind) type e) (of kind refl)

    abbrev HasType : Expr → Type 0
    HasType e = (type : ValueType) → type_of names e ≡ Some type → IsTyped type (tree_of names e)

    LevelHas : Expr-F Expr → Type 0
    LevelHas z = (type : ValueType) → level_type names (map-Expr Expr Typing (type_of names) z) ≡ Some type → IsTyped type (level_tree names (map-Expr Expr Tree (tree_of names) z))

    level_has : (y : Expr-F ((e : Expr) × HasType e)) → LevelHas (map-Expr ((e : Expr) × HasType e) Expr (λ e. e.0) y)
    unfolding LevelHas
    level_has Expr-F.Na = λ type e. na_typed type e
    level_has (Expr-F.Integer whole) = λ type e. literal_typed (cell.Int whole) INTEGER type refl refl refl e
    level_has (Expr-F.Number number) = λ type e. literal_typed (cell.Num number) NUMBER type refl refl refl e
    level_has (Expr-F.Text text) = λ type e. literal_typed (cell.Text text) TEXT type refl refl refl e
    level_has (Expr-F.Truth truth) = λ type e. literal_typed (cell.Bool truth) BOOLEAN type refl refl refl e
    level_has (Expr-F.Object target) = λ type e. target_typed target type e
    level_has (Expr-F.Grouped x) = x.1
    level_has (Expr-F.Not x) = λ type e. let p = and_then_parts negated_type (type_of names x.0) type e in not_typed (tree_of names x.0) p.0 type (x.1 p.0 p.1) p.2
    level_has (Expr-F.Negative x) = λ type e. let p = and_then_parts size_type (type_of names x.0) type e in negative_typed (tree_of names x.0) p.0 type (x.1 p.0 p.1) p.2
    level_has (Expr-F.Abs x) = λ type e. let p = and_then_parts size_type (type_of names x.0) type e in abs_typed (tree_of names x.0) p.0 type (x.1 p.0 p.1) p.2
    level_has (Expr-F.Joined j x y) = λ type e.
        let p = two_parts (joint_type j) (type_of names x.0) (type_of names y.0) type e in
        joined_typed j (tree_of names x.0) (tree_of names y.0) p.0 p.1 type (x.1 p.0 p.2) (y.1 p.1 p.3) p.4
    level_has (Expr-F.If x y z) = λ type e.
        let p = three_parts choice_type (type_of names x.0) (type_of names y.0) (type_of names z.0) type e in
        chosen_typed (tree_of names x.0) (tree_of names y.0) (tree_of names z.0) p.0 p.1 p.2 type (x.1 p.0 p.3) (y.1 p.1 p.4) (z.1 p.2 p.5) p.6

    rolled : (x : Expr-F Expr) → LevelHas x → HasType (roll-Expr x)
    unfolding LevelHas
    rolled x h = λ type e.
        subst (λ (t : Tree). IsTyped type t) (sym (fold-roll-Expr Tree (level_tree names) x))
        (h type (sym (fold-roll-Expr Typing (level_type names) x) ∙ e))

    pub has_type : (e : Expr) → HasType e
    has_type = ind-Expr HasType (λ x y is. rolled x (subst LevelHas is (level_has y)))
