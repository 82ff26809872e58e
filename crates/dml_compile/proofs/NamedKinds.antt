-- The names of a catalogue, of formulas that were noted and of locals are of their kinds.
use Rattle.std.proofs.Common.{◌≡◌, ◌∙◌, ℕ, zero, suc, ◌<◌, ◌&&◌, Bool as Truth, true, false, not, cond, eqb, eq-eqb, List, [], ◌∷◌, ◌++◌, length, map, Option, Some, None, refl, sym, ap, subst, arith, append_assoc}
use Rattle.std.specs.Prelude.{nat_le, slice_get, position, find, filter_map, IsTrue, if◌then◌else◌}
use Rattle.std.specs.List.{list_all, cons_option}
use Rattle.std.specs.Option.{option_map, option_and_then, option_or}
use Rattle.std.proofs.lemmas.Bool.{and_parts, true≢false, leb-false}
use Rattle.std.proofs.lemmas.Option.{slice_get-map}
use Rattle.aw_cell.specs.Names.{is_name, same_word}
use Rattle.aw_cell.specs.declared.operator.Operator.{Operator}
use Rattle.aw_cell.specs.declared.cell.Kind.{Kind}
use Rattle.aw_cell.specs.declared.cell.Kind.TheVariants.{Num as NUMBER, Int as INTEGER, Text as TEXT, Bool as BOOLEAN, Slot as SLOT}
use Rattle.aw_schema.specs.declared.definition.Def.{Def}
use Rattle.aw_schema.specs.declared.definition.DefKind.{DefKind}
use Rattle.aw_schema.specs.declared.definition.DefKind.TheVariants as defined
use Rattle.aw_schema.specs.Definitions.{is_dimension as is_dimension_defined, is_type, has_form, is_spellable, object_of}
use Rattle.aw_schema.specs.Checking.{not_dimensions, wrong_kind, wrong_objects, repeated_name, repeated_dimension, too_many, refusal, AreAcceptedAfter, AreAccepted}
use Rattle.aw_schema.specs.declared.fault.SchemaFault.TheVariants.{Unknown, WrongKind}
use Rattle.dml_tree.specs.declared.expr.Target.{Target}
use Rattle.dml_kinds.specs.declared.types.ValueType.TheVariants.{Of}
use Rattle.dml_kinds.specs.declared.signature.Signature.{Signature}
use Rattle.dml_kinds.specs.declared.signature.Signature.TheVariants as signature
use Rattle.dml_kinds.specs.declared.meaning.Known.{Known}
use Rattle.dml_kinds.specs.declared.meaning.Meaning.{Meaning}
use Rattle.dml_kinds.specs.declared.meaning.Meaning.TheVariants as meaning
use Rattle.dml_kinds.specs.declared.tree.FixedValue.{FixedValue}
use Rattle.dml_kinds.specs.declared.tree.Tree.{Tree}
use Rattle.dml_kinds.specs.declared.tree.Tree.TheOpen.{Tree-F}
use Rattle.dml_kinds.specs.declared.tree.Tree.TheVariants as tree
use Rattle.dml_kinds.specs.declared.tree.Tree.TheVariants.{rolls-Local, rolls-Dimension, rolls-Variable, rolls-Relation, rolls-Formula}
use Rattle.dml_kinds.specs.declared.tree.Tree.TheViews.{outs-Local, outs-Dimension, outs-Variable, outs-Relation, outs-Formula}
use Rattle.dml_kinds.specs.Signatures.{Told, signature_of}
use Rattle.dml_kinds.specs.Meanings.{Names, names_in, local_at, local_named, object_known, object_defined, object_named, meaning_of, formula_meaning, program_meaning, aggmap_meaning, map_of, combines, kind_in, kind_named}
use Rattle.dml_kinds.specs.Trees.{level_kind, taken, meant, fixed_values, target_tree}
use Rattle.dml_exec.specs.declared.kinds.Kinds.{Kinds}
use Rattle.dml_exec.specs.declared.kinds.ObjectKind.{ObjectKind}
use Rattle.dml_exec.specs.declared.kinds.ObjectKind.TheVariants.{Cells}
use Rattle.dml_exec.specs.declared.op.Axis.TheVariants.{Free}
use Rattle.dml_exec.specs.Operators.{when}
use Rattle.dml_exec.specs.Verified.{is_dimension_kind, is_dimension, is_axis, are_axes, kind_read, kind_named as text_named}
use Rattle.dml_compile.specs.Laws.{few_dimensions}
use Rattle.dml_compile.specs.Objects.{object_kind, object_kinds}
use Rattle.dml_compile.specs.TreeKinds.{same_kind, is_kind}
use Rattle.dml_compile.proofs.SoundTrees.{same_is}
use Rattle.dml_compile.proofs.TypedTrees.{IsTyped, level_at}

some_is : {A : Type 0} (one other default : A) → Some one ≡ Some other → one ≡ other
some_is one other default e = cc

pub itself : (kind : Kind) → same_kind kind kind ≡ true
itself NUMBER = refl
itself INTEGER = refl
itself TEXT = refl
itself BOOLEAN = refl
itself SLOT = refl

module _ (kinds : Kinds) (formula : ℕ → Kind → Truth) where
  -- what a meaning names is there, and of its kind
  abbrev pub MeaningFits : Meaning → Type 0
  MeaningFits (meaning.Local place k) = (is_type k ≡ true) × (is_kind k (slice_get kinds.locals place) ≡ true)
  MeaningFits (meaning.Dimension object) = is_kind TEXT (text_named kinds object) ≡ true
  MeaningFits (meaning.Relation object target base) =
      (is_kind SLOT (kind_read kinds 0 (Free base ∷ []) (slice_get kinds.objects object)) ≡ true) × (is_kind TEXT (text_named kinds target) ≡ true)
  MeaningFits (meaning.Variable object k dimensions) =
      (is_type k ≡ true) × (is_kind k (kind_read kinds 0 (map Free dimensions) (slice_get kinds.objects object)) ≡ true)
  MeaningFits (meaning.Formula object k dimensions weight) = (is_type k ≡ true) × (formula object k ≡ true)
  MeaningFits _ = Unit {0}

  -- asked for as the kind that it is
  asked : (own kind : Kind) (found : Option Kind) → is_kind own found ≡ true → same_kind own kind ≡ true → is_kind kind found ≡ true
  asked own kind found e f = subst (λ (k : Kind). is_kind k found ≡ true) (same_is own kind f) e

  of_kind : (own kind : Kind) (t : Tree) → IsTyped kinds formula (Of own) t → Some own ≡ Some kind → IsTyped kinds formula (Of kind) t
  of_kind own kind t h e = subst (λ (k : Kind). IsTyped kinds formula (Of k) t) (some_is own kind own e) h

  meaning_typed : (m : Meaning) (fixes : List FixedValue) (kind : Kind) → MeaningFits m → kind_in m ≡ Some kind → IsTyped kinds formula (Of kind) (meant (Some m) fixes)
  meaning_typed (meaning.Local place k) fixes kind fits e = of_kind k kind (tree.Local place k) (record {
    same = ap level_kind (outs-Local place k);
    language = fits.0;
    is = λ own f. level_at kinds formula (Tree-F.Local place k) (tree.Local place k) own (rolls-Local place k) (asked k own (slice_get kinds.locals place) fits.1 f);
  }) e
  meaning_typed (meaning.Dimension object) fixes kind fits e = of_kind TEXT kind (tree.Dimension object) (record {
    same = ap level_kind (outs-Dimension object);
    language = refl;
    is = λ own f. level_at kinds formula (Tree-F.Dimension object) (tree.Dimension object) own (rolls-Dimension object) (asked TEXT own (text_named kinds object) fits f);
  }) e
  meaning_typed (meaning.Relation object target base) fixes kind fits e = of_kind TEXT kind (tree.Relation target (taken object (base ∷ []) fixes)) (record {
    same = ap level_kind (outs-Relation target (taken object (base ∷ []) fixes));
    language = refl;
    is = λ own f. level_at kinds formula (Tree-F.Relation target (taken object (base ∷ []) fixes)) (tree.Relation target (taken object (base ∷ []) fixes)) own (rolls-Relation target (taken object (base ∷ []) fixes))
        (ap (λ (t : Truth). t && is_kind own (text_named kinds target)) fits.0 ∙ asked TEXT own (text_named kinds target) fits.1 f);
  }) e
  meaning_typed (meaning.Variable object k dimensions) fixes kind fits e = of_kind k kind (tree.Variable k (taken object dimensions fixes)) (record {
    same = ap level_kind (outs-Variable k (taken object dimensions fixes));
    language = fits.0;
    is = λ own f. level_at kinds formula (Tree-F.Variable k (taken object dimensions fixes)) (tree.Variable k (taken object dimensions fixes)) own (rolls-Variable k (taken object dimensions fixes))
        (asked k own (kind_read kinds 0 (map Free dimensions) (slice_get kinds.objects object)) fits.1 f);
  }) e
  meaning_typed (meaning.Formula object k dimensions weight) fixes kind fits e = of_kind k kind (tree.Formula k (taken object dimensions fixes)) (record {
    same = ap level_kind (outs-Formula k (taken object dimensions fixes));
    language = fits.0;
    is = λ own f. level_at kinds formula (Tree-F.Formula k (taken object dimensions fixes)) (tree.Formula k (taken object dimensions fixes)) own (rolls-Formula k (taken object dimensions fixes))
        (subst (λ (l : Kind). formula object l ≡ true) (same_is k own f) fits.1);
  }) e
  meaning_typed _ fixes kind fits e = absurd (cc)

  known_typed : (known : Option Known) (fixes : List FixedValue) (kind : Kind) → ((k : Known) → known ≡ Some k → MeaningFits k.meaning) → option_and_then kind_in (option_map (λ (k : Known). k.meaning) known) ≡ Some kind → IsTyped kinds formula (Of kind) (meant (option_map (λ (k : Known). k.meaning) known) fixes)
  known_typed None fixes kind fits e = absurd (cc)
  known_typed (Some k) fixes kind fits e = meaning_typed k.meaning fixes kind (fits k refl) e

  -- a name whose meaning fits is of its kind
  pub names_typed : (names : Names) → ((name : List ℕ) (k : Known) → names name ≡ Some k → MeaningFits k.meaning) → (target : Target) (kind : Kind) → kind_named names target.name ≡ Some kind → IsTyped kinds formula (Of kind) (target_tree names target)
  names_typed names fits target kind e = known_typed (names target.name) (fixed_values names target.fixes) kind (fits target.name) e

-- ---- definitions

none_of : {A : Type 0} (t : Truth) (x : A) (rest : Option A) → cond t (Some x) rest ≡ None → (t ≡ false) × (rest ≡ None)
none_of true x rest e = absurd (cc)
none_of false x rest e = (refl, e)

none_first : {A : Type 0} (a b : Option A) → option_or a b ≡ None → a ≡ None
none_first None b e = refl
none_first (Some x) b e = absurd (cc)

none_then : {A : Type 0} (a b : Option A) → option_or a b ≡ None → b ≡ None
none_then None b e = e
none_then (Some x) b e = absurd (cc)

map_none : {A B : Type 0} (f : A → B) (o : Option A) → option_map f o ≡ None → o ≡ None
map_none f None e = refl
map_none f (Some x) e = absurd (cc)

get_there : {A : Type 0} (xs : List A) (k : ℕ) → k < length xs → (x : A) × (slice_get xs k ≡ Some x)
get_there [] k less = absurd (omega (arith, less))
get_there (x ∷ xs) zero less = (x, refl)
get_there (x ∷ xs) (suc k) less = get_there xs k (omega (arith, less))

get_front : {A : Type 0} (xs ys : List A) (k : ℕ) (x : A) → slice_get xs k ≡ Some x → slice_get (xs ++ ys) k ≡ Some x
get_front [] ys k x e = absurd (cc)
get_front (y ∷ xs) ys zero x e = e
get_front (y ∷ xs) ys (suc k) x e = get_front xs ys k x e

all_get : {A : Type 0} (p : A → Truth) (xs : List A) (k : ℕ) (x : A) → list_all p xs ≡ true → slice_get xs k ≡ Some x → p x ≡ true
all_get p [] k x all e = absurd (cc)
all_get p (y ∷ xs) zero x all e = let same : y ≡ x = cc in subst (λ (z : _). p z ≡ true) same (and_parts (p y) (list_all p xs) all).0
all_get p (y ∷ xs) (suc k) x all e = all_get p xs k x (and_parts (p y) (list_all p xs) all).1 e

-- numbers of dimensions
abbrev are_dimensions : List Def → List ℕ → Truth
are_dimensions definitions numbers = list_all (λ d. is_dimension_kind (slice_get (object_kinds definitions) d)) numbers

dimension_there : (kind : DefKind) → not (is_dimension_defined kind) ≡ false → is_dimension_kind (Some (object_kind kind)) ≡ true
dimension_there defined.Dimension e = refl
dimension_there _ e = absurd (true≢false e)

dimensions_are : (before after : List Def) (numbers : List ℕ) → find (nat_le (length before)) numbers ≡ None → find (λ (def : Def). not (is_dimension_defined def.kind)) (filter_map (slice_get before) numbers) ≡ None → are_dimensions (before ++ after) numbers ≡ true
dimensions_are before after [] known right = refl
dimensions_are before after (d ∷ numbers) known right =
    let there = none_of (nat_le (length before) d) d (find (nat_le (length before)) numbers) known in
    let def = get_there before d (leb-false (length before) d there.0) in
    let rest : find (λ (one : Def). not (is_dimension_defined one.kind)) (def.0 ∷ filter_map (slice_get before) numbers) ≡ None =
    ap (λ (o : Option Def). find (λ (one : Def). not (is_dimension_defined one.kind)) (cons_option o (filter_map (slice_get before) numbers))) (sym def.1) ∙ right in
    let is = none_of (not (is_dimension_defined def.0.kind)) def.0 (find (λ (one : Def). not (is_dimension_defined one.kind)) (filter_map (slice_get before) numbers)) rest in
    let here : slice_get (object_kinds (before ++ after)) d ≡ Some (object_kind def.0.kind) =
    slice_get-map (λ (one : Def). object_kind one.kind) (before ++ after) d ∙ ap (option_map (λ (one : Def). object_kind one.kind)) (get_front before after d def.0 def.1) in
    ap (λ (t : Truth). t && are_dimensions (before ++ after) numbers) (ap is_dimension_kind here ∙ dimension_there def.0.kind is.0)
    ∙ dimensions_are before after numbers there.1 is.1

not_dimensions_are : (before after : List Def) (numbers : List ℕ) → not_dimensions before numbers ≡ None → are_dimensions (before ++ after) numbers ≡ true
not_dimensions_are before after numbers none =
    dimensions_are before after numbers
    (map_none Unknown (find (nat_le (length before)) numbers) (none_first (option_map Unknown (find (nat_le (length before)) numbers)) (wrong_kind before numbers) none))
    (map_none (λ (def : Def). WrongKind def.name) (find (λ (def : Def). not (is_dimension_defined def.kind)) (filter_map (slice_get before) numbers))
    (none_then (option_map Unknown (find (nat_le (length before)) numbers)) (wrong_kind before numbers) none))

-- what a definition names is there
abbrev DefFits : List Def → DefKind → Type 0
DefFits all (defined.Relation target base) = are_dimensions all (target ∷ base ∷ []) ≡ true
DefFits all (defined.Variable k dimensions) = (is_type k ≡ true) × (are_dimensions all dimensions ≡ true)
DefFits all _ = Unit {0}

objects_fit : (before after : List Def) (kind : DefKind) → has_form kind ≡ true → wrong_objects before kind ≡ None → DefFits (before ++ after) kind
objects_fit before after (defined.Relation target base) form none = not_dimensions_are before after (target ∷ base ∷ []) none
objects_fit before after (defined.Variable k dimensions) form none =
    (form, not_dimensions_are before after dimensions (none_first (not_dimensions before dimensions) (repeated_dimension before dimensions) none))
objects_fit before after defined.Dimension form none = tt
objects_fit before after (defined.Valueset d) form none = tt
objects_fit before after (defined.Formula text) form none = tt
objects_fit before after (defined.Program text) form none = tt
objects_fit before after (defined.Aggmap text) form none = tt

def_fits : (before after : List Def) (def : Def) → IsTrue (is_spellable def) → refusal before def ≡ None → DefFits (before ++ after) def.kind
def_fits before after def spellable none =
    objects_fit before after def.kind (and_parts (is_name def.name) (has_form def.kind) spellable).1
    (none_then (too_many before) (wrong_objects before def.kind) (none_then (repeated_name before def.name) (option_or (too_many before) (wrong_objects before def.kind)) none))

accepted_fit : (before defs : List Def) → AreAcceptedAfter before defs → (k : ℕ) (def : Def) → slice_get defs k ≡ Some def → DefFits (before ++ defs) def.kind
accepted_fit before [] accepted k def e = absurd (cc)
accepted_fit before (d ∷ defs) accepted zero def e =
    let same : d ≡ def = cc in
    subst (λ (one : Def). DefFits (before ++ d ∷ defs) one.kind) same (def_fits before (d ∷ defs) d accepted.0 accepted.1)
accepted_fit before (d ∷ defs) accepted (suc k) def e =
    subst (λ (all : List Def). DefFits all def.kind) (append_assoc before (d ∷ []) defs) (accepted_fit (before ++ d ∷ []) defs accepted.2 k def e)

-- ---- objects, locals and formulas by their names

module _ (definitions : List Def) (known : Told) (locals : List (List ℕ × Kind)) (formula : ℕ → Kind → Truth) (accepted : AreAccepted definitions) (few : list_all (λ (def : Def). few_dimensions def.kind) definitions ≡ true) (language : list_all (λ (local : List ℕ × Kind). is_type local.1) locals ≡ true)
    (told : (object : ℕ) (kind : Kind) (dimensions : List ℕ) (weight : ℕ) → signature_of known object ≡ Some (signature.Formula kind dimensions weight) → (is_type kind ≡ true) × (formula object kind ≡ true)) where
  abbrev all_kinds : Kinds
  all_kinds = record { objects = object_kinds definitions; locals = map (λ (local : List ℕ × Kind). local.1) locals }

  abbrev Fits : Meaning → Type 0
  Fits m = MeaningFits all_kinds formula m

  -- ---- locals

  local_there : (place : ℕ) (o : Option (List ℕ × Kind)) (k : Known) → slice_get locals place ≡ o → option_map (local_at place) o ≡ Some k → Fits k.meaning
  local_there place None k e h = absurd (cc)
  local_there place (Some local) k e h =
      let here : slice_get all_kinds.locals place ≡ Some local.1 = slice_get-map (λ (one : List ℕ × Kind). one.1) locals place ∙ ap (option_map (λ (one : List ℕ × Kind). one.1)) e in
      subst (λ (one : Known). Fits one.meaning) (some_is (local_at place local) k k h)
      (all_get (λ (one : List ℕ × Kind). is_type one.1) locals place local language e, ap (is_kind local.1) here ∙ itself local.1)

  local_fits : (o : Option ℕ) (k : Known) → option_and_then (λ place. option_map (local_at place) (slice_get locals place)) o ≡ Some k → Fits k.meaning
  local_fits None k h = absurd (cc)
  local_fits (Some place) k h = local_there place (slice_get locals place) k refl h

  -- ---- objects

  axes_length : (dimensions : List ℕ) → length (map Free dimensions) ≡ length dimensions
  axes_length [] = refl
  axes_length (d ∷ dimensions) = ap suc (axes_length dimensions)

  axes_named : (dimensions : List ℕ) → are_dimensions definitions dimensions ≡ true → list_all (is_axis all_kinds 0) (map Free dimensions) ≡ true
  axes_named [] are = refl
  axes_named (d ∷ dimensions) are =
      let both = and_parts (is_dimension all_kinds d) (are_dimensions definitions dimensions) are in
      ap (λ (t : Truth). t && list_all (is_axis all_kinds 0) (map Free dimensions)) both.0 ∙ axes_named dimensions both.1

  read_there : (kind : Kind) (dimensions : List ℕ) → nat_le (length dimensions) 6 ≡ true → are_dimensions definitions dimensions ≡ true → is_kind kind (kind_read all_kinds 0 (map Free dimensions) (Some (Cells kind dimensions))) ≡ true
  read_there kind dimensions small are =
      let axes : are_axes all_kinds 0 dimensions (map Free dimensions) ≡ true =
      ap (λ (n : ℕ). eqb n (length dimensions) && nat_le n 6 && list_all (is_axis all_kinds 0) (map Free dimensions)) (axes_length dimensions)
      ∙ ap (λ (t : Truth). t && nat_le (length dimensions) 6 && list_all (is_axis all_kinds 0) (map Free dimensions)) (eq-eqb (length dimensions) (length dimensions) refl)
      ∙ ap (λ (t : Truth). t && list_all (is_axis all_kinds 0) (map Free dimensions)) small
      ∙ axes_named dimensions are in
      ap (λ (t : Truth). is_kind kind (when t kind)) axes ∙ itself kind

  is_dimension_there : (object : ℕ) → is_dimension all_kinds object ≡ true → is_kind TEXT (text_named all_kinds object) ≡ true
  is_dimension_there object is = ap (λ (t : Truth). is_kind TEXT (when t TEXT)) is

  map_fits : (object : ℕ) (lines : List (ℕ × Operator)) → Fits (map_of object lines)
  map_fits object lines = by (list_all (λ (line : ℕ × Operator). combines line.1) lines) (eqb (length lines) 1)
    where
      by : (t u : Truth) → Fits (if t then meaning.Aggregation object else if u then meaning.Allocation object else meaning.Unfit object)
      by true u = tt
      by false true = tt
      by false false = tt

  formula_there : (object : ℕ) (o : Option Signature) (m : Meaning) → signature_of known object ≡ o → formula_meaning object o ≡ Some m → Fits m
  formula_there object (Some (signature.Formula k dimensions weight)) m is e = subst Fits (some_is (meaning.Formula object k dimensions weight) m m e) (told object k dimensions weight is)
  formula_there object (Some (signature.Program arguments)) m is e = absurd (cc)
  formula_there object (Some (signature.Map lines)) m is e = absurd (cc)
  formula_there object None m is e = absurd (cc)

  program_there : (object : ℕ) (o : Option Signature) (m : Meaning) → program_meaning object o ≡ Some m → Fits m
  program_there object (Some (signature.Program arguments)) m e = subst Fits (some_is (meaning.Program object) m m e) tt
  program_there object (Some (signature.Formula k dimensions weight)) m e = absurd (cc)
  program_there object (Some (signature.Map lines)) m e = absurd (cc)
  program_there object None m e = absurd (cc)

  map_there : (object : ℕ) (o : Option Signature) (m : Meaning) → aggmap_meaning object o ≡ Some m → Fits m
  map_there object (Some (signature.Map lines)) m e = subst Fits (some_is (map_of object lines) m m e) (map_fits object lines)
  map_there object (Some (signature.Formula k dimensions weight)) m e = absurd (cc)
  map_there object (Some (signature.Program arguments)) m e = absurd (cc)
  map_there object None m e = absurd (cc)

  defined_fits : (object : ℕ) (kind : DefKind) (m : Meaning) → slice_get (object_kinds definitions) object ≡ Some (object_kind kind) → DefFits definitions kind → few_dimensions kind ≡ true → meaning_of known object kind ≡ Some m → Fits m
  defined_fits object defined.Dimension m here fits small e =
      subst Fits (some_is (meaning.Dimension object) m m e) (ap (λ (o : Option ObjectKind). is_kind TEXT (when (is_dimension_kind o) TEXT)) here)
  defined_fits object (defined.Relation target base) m here fits small e =
      let both = and_parts (is_dimension all_kinds target) (are_dimensions definitions (base ∷ [])) fits in
      subst Fits (some_is (meaning.Relation object target base) m m e)
      (ap (λ (o : Option ObjectKind). is_kind SLOT (kind_read all_kinds 0 (Free base ∷ []) o)) here ∙ read_there SLOT (base ∷ []) refl both.1, is_dimension_there target both.0)
  defined_fits object (defined.Valueset dimension) m here fits small e = subst Fits (some_is (meaning.Valueset object dimension) m m e) tt
  defined_fits object (defined.Variable k dimensions) m here fits small e =
      subst Fits (some_is (meaning.Variable object k dimensions) m m e)
      (fits.0, ap (λ (o : Option ObjectKind). is_kind k (kind_read all_kinds 0 (map Free dimensions) o)) here ∙ read_there k dimensions small fits.1)
  defined_fits object (defined.Formula text) m here fits small e = formula_there object (signature_of known object) m refl e
  defined_fits object (defined.Program text) m here fits small e = program_there object (signature_of known object) m e
  defined_fits object (defined.Aggmap text) m here fits small e = map_there object (signature_of known object) m e

  object_there : (object : ℕ) (o : Option Def) (k : Known) → slice_get definitions object ≡ o → option_and_then (object_defined known object) o ≡ Some k → Fits k.meaning
  object_there object None k e h = absurd (cc)
  object_there object (Some def) k e h = by (meaning_of known object def.kind) refl h
    where
      by : (o : Option Meaning) → meaning_of known object def.kind ≡ o → option_map (λ (m : Meaning). record { name = def.name; meaning = m }) o ≡ Some k → Fits k.meaning
      by None is h = absurd (cc)
      by (Some m) is h =
          let here : slice_get (object_kinds definitions) object ≡ Some (object_kind def.kind) = slice_get-map (λ (one : Def). object_kind one.kind) definitions object ∙ ap (option_map (λ (one : Def). object_kind one.kind)) e in
          subst (λ (one : Known). Fits one.meaning) (some_is (record { name = def.name; meaning = m }) k k h)
          (defined_fits object def.kind m here (accepted_fit [] definitions accepted object def e) (all_get (λ (one : Def). few_dimensions one.kind) definitions object def few e) is)

  object_fits : (o : Option ℕ) (k : Known) → option_and_then (object_known definitions known) o ≡ Some k → Fits k.meaning
  object_fits None k h = absurd (cc)
  object_fits (Some object) k h = object_there object (slice_get definitions object) k refl h

  -- each name fits
  pub names_fit : (name : List ℕ) (k : Known) → names_in definitions known locals name ≡ Some k → Fits k.meaning
  unfolding names_in
  names_fit name k h = by (local_named locals name) refl h
    where
      by : (o : Option Known) → local_named locals name ≡ o → elim o as (λ _. Option Known) [ Some local ↦ Some local | None ↦ object_named definitions known name ] ≡ Some k → Fits k.meaning
      by (Some local) is h = local_fits (position (λ (local : List ℕ × Kind). same_word name local.0) locals) k (is ∙ h)
      by None is h = object_fits (object_of definitions name) k h
