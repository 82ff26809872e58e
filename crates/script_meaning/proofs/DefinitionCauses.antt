-- Why a definition is refused, by its names: the first cause that applies decides.
use Rattle.std.specs.Prelude.{◌≡◌, ◌≤◌, ◌<◌, ◌&&◌, ◌||◌, ◌++◌, ℕ, zero, suc, Bool, true, false, not, List, [], ◌∷◌, cond, find, length, map, nat_eq, nat_le, nat_lt, position, slice_get, Option, Some, None, is_none, unwrap_or, if◌then◌else◌, refl}
use Rattle.std.specs.List.{cons_option, filter_map, list_any, position_or_len}
use Rattle.std.specs.Option.{option_and_then, option_map, option_or}
use Rattle.std.specs.Str.{bytes_eq}
use Rattle.std.proofs.Common.{◌∙◌, ap, ap₂, sym, subst, arith}
use Rattle.std.proofs.lemmas.Bool.{and_parts, leb-true, leb-false, ltb-true, ltb-false, le-leb, eqb-true, eq-eqb, true≢false}
use Rattle.std.proofs.lemmas.List.{map-append}
use Rattle.std.proofs.lemmas.Option.{cond_some, none-some, same_Some}
use Rattle.std.proofs.lemmas.Slice.Eq.{bytes_eq-Decides}
use Rattle.aw_cell.specs.Names.{same_word, lowercase}
use Rattle.aw_schema.specs.declared.definition.Def.{Def}
use Rattle.aw_schema.specs.declared.fault.SchemaFault.{SchemaFault}
use Rattle.aw_schema.specs.declared.fault.SchemaFault.TheVariants.{Repeat, TooMany, Unknown, WrongKind}
use Rattle.aw_schema.specs.Checking as check
use Rattle.aw_schema.specs.Checking.{repeated_name, too_many, wrong_kind, not_dimensions, repeated_dimension, wrong_objects, refusal}
use Rattle.aw_schema.specs.Definitions.{has_name, object_of, is_dimension}
use Rattle.aw_schema.proofs.callers.Finding.{find-position}
use Rattle.ses_report.specs.declared.refusal.Refusal.{Refusal}
use Rattle.ses_report.specs.Refusals as report
use Rattle.ses_step.specs.declared.definition.Definition.{Definition}
use Rattle.ses_step.specs.declared.definition.NamedKind.{NamedKind}
use Rattle.ses_step.specs.declared.definition.NamedKind.TheVariants.{Dimension, Relation, Valueset, Variable}
use Rattle.script_meaning.specs.Defining.{number_of, kind_of, def_of, names_in, first_undefined, told, define_refusal}
use Rattle.script_meaning.specs.DefinitionAnswers.{found_as, has_room, first_other, first_again, dimensions_of, first_repeated}

-- ---- lists

or-none_right : {A : Type 0} (x : Option A) → option_or x None ≡ x
or-none_right None = refl
or-none_right (Some a) = refl

over-and : (P : Type 0) (a b : Bool) → (a && b) ≡ false → (a ≡ false → P) → (b ≡ false → P) → P
over-and P false b is first second = first refl
over-and P true b is first second = second is

find-passes : {A : Type 0} (p : A → Bool) (xs : List A) (x : A) → find p xs ≡ Some x → p x ≡ true
find-passes p [] x none = absurd (none-some x none)
find-passes {A} p (y ∷ xs) x is = by_test (p y) refl is (λ found. find-passes p xs x found)
  where
    by_test : (test : Bool) → p y ≡ test → cond test (Some y) (find p xs) ≡ Some x → (find p xs ≡ Some x → p x ≡ true) → p x ≡ true
    by_test true e found later = subst (λ (one : A). p one ≡ true) (same_Some y x found) e
    by_test false e found later = later found

slice-inside : {A : Type 0} (xs : List A) (k : ℕ) → k < length xs → (x : A) × (slice_get xs k ≡ Some x)
slice-inside [] k below = absurd (omega (arith, below))
slice-inside (x ∷ xs) zero below = (x, refl)
slice-inside (x ∷ xs) (suc k) below = slice-inside xs k (omega (arith, below))

slice-past : {A : Type 0} (xs : List A) (k : ℕ) → length xs ≤ k → slice_get xs k ≡ None
slice-past [] k past = refl
slice-past (x ∷ xs) zero past = absurd (omega (arith, past))
slice-past (x ∷ xs) (suc k) past = slice-past xs k (omega (arith, past))

-- ---- an object by its number, and by its name

module _ (definitions : List Def) (few : length definitions < 65536) where
  abbrev number : List ℕ → ℕ
  number name = number_of definitions name

  place-inside : (name : List ℕ) (at : ℕ) → object_of definitions name ≡ Some at → at < length definitions
  place-inside name at is =
      let first = position_or_len (has_name name) definitions in
      let there = cond_some (nat_lt first (length definitions)) first at is in
      omega (arith, ltb-true first (length definitions) there.0, there.1)

  -- what stands at the number of a name is what is found under the name
  found-number : (name : List ℕ) → slice_get definitions (number name) ≡ found_as definitions name
  found-number name = by_place (object_of definitions name) refl ∙ sym (find-position (has_name name) definitions)
    where
      by_place : (place : Option ℕ) → object_of definitions name ≡ place → slice_get definitions (number name) ≡ option_and_then (slice_get definitions) (object_of definitions name)
      by_place None is =
          ap (λ (place : Option ℕ). slice_get definitions (unwrap_or place 65535)) is ∙ slice-past definitions 65535 (omega (arith, few)) ∙ sym (ap (option_and_then (slice_get definitions)) is)
      by_place (Some at) is =
          ap (λ (place : Option ℕ). slice_get definitions (unwrap_or place 65535)) is ∙ sym (ap (option_and_then (slice_get definitions)) is)

  -- a name is undefined exactly where its number is no object's
  number-past : (name : List ℕ) → nat_le (length definitions) (number name) ≡ is_none (object_of definitions name)
  number-past name = by_place (object_of definitions name) refl
    where
      inside : (at : ℕ) → at < length definitions → (test : Bool) → nat_le (length definitions) at ≡ test → test ≡ false
      inside at below false is = refl
      inside at below true is = absurd (omega (arith, below, leb-true (length definitions) at is))

      by_place : (place : Option ℕ) → object_of definitions name ≡ place → nat_le (length definitions) (number name) ≡ is_none (object_of definitions name)
      by_place None is =
          ap (λ (place : Option ℕ). nat_le (length definitions) (unwrap_or place 65535)) is ∙ le-leb (length definitions) 65535 (omega (arith, few)) ∙ sym (ap is_none is)
      by_place (Some at) is =
          ap (λ (place : Option ℕ). nat_le (length definitions) (unwrap_or place 65535)) is ∙ inside at (place-inside name at is) (nat_le (length definitions) at) refl ∙ sym (ap is_none is)

  first-past : (names : List (List ℕ)) → find (nat_le (length definitions)) (map number names) ≡ option_map number (find (λ name. is_none (object_of definitions name)) names)
  first-past [] = refl
  first-past (name ∷ names) =
      ap₂ (λ (test : Bool) (rest : Option ℕ). cond test (Some (number name)) rest) (number-past name) (first-past names)
      ∙ moved (is_none (object_of definitions name))
    where
      moved : (test : Bool) → cond test (Some (number name)) (option_map number (find (λ name. is_none (object_of definitions name)) names)) ≡ option_map number (cond test (Some name) (find (λ name. is_none (object_of definitions name)) names))
      moved true = refl
      moved false = refl

  found-all : (names : List (List ℕ)) → filter_map (slice_get definitions) (map number names) ≡ filter_map (found_as definitions) names
  found-all [] = refl
  found-all (name ∷ names) = ap₂ (λ (one : Option Def) (rest : List Def). cons_option one rest) (found-number name) (found-all names)

  -- ---- names of one object

  abbrev IsDefined : List ℕ → Type 0
  IsDefined name = (at : ℕ) × (object_of definitions name ≡ Some at)

  abbrev AreDefined : List (List ℕ) → Type 0
  AreDefined [] = Unit {0}
  AreDefined (name ∷ names) = IsDefined name × AreDefined names

  all-defined : (names : List (List ℕ)) → find (λ name. is_none (object_of definitions name)) names ≡ None → AreDefined names
  all-defined [] none = tt
  all-defined (name ∷ names) none = by_place (object_of definitions name) refl none (λ rest. all-defined names rest)
    where
      by_place : (place : Option ℕ) → object_of definitions name ≡ place → cond (is_none place) (Some name) (find (λ name. is_none (object_of definitions name)) names) ≡ None → (find (λ name. is_none (object_of definitions name)) names ≡ None → AreDefined names) → AreDefined (name ∷ names)
      by_place None is none later = absurd (none-some name (sym none))
      by_place (Some at) is none later = ((at, is), later none)

  defined-push : (names : List (List ℕ)) (name : List ℕ) → AreDefined names → IsDefined name → AreDefined (names ++ name ∷ [])
  defined-push [] name are is = (is, tt)
  defined-push (first ∷ names) name are is = (are.0, defined-push names name are.1 is)

  -- the object at the number of a name has that name
  has-own : (name : List ℕ) (at : ℕ) → object_of definitions name ≡ Some at → (def : Def) × (slice_get definitions at ≡ Some def) × (same_word name def.name ≡ true)
  has-own name at is =
      let there = slice-inside definitions at (place-inside name at is) in
      (there.0, there.1, find-passes (has_name name) definitions there.0 (find-position (has_name name) definitions ∙ ap (option_and_then (slice_get definitions)) is ∙ there.1))

  same-object : (a b : List ℕ) → IsDefined a → IsDefined b → nat_eq (number a) (number b) ≡ same_word b a
  same-object a b one other = by_test (same_word b a) refl
    where
      own_a : number a ≡ one.0
      own_a = ap (λ (place : Option ℕ). unwrap_or place 65535) one.1

      own_b : number b ≡ other.0
      own_b = ap (λ (place : Option ℕ). unwrap_or place 65535) other.1

      by_test : (test : Bool) → same_word b a ≡ test → nat_eq (number a) (number b) ≡ test
      by_test true is =
          let lower : lowercase b ≡ lowercase a = (bytes_eq-Decides (lowercase b) (lowercase a)).0 is in
          eq-eqb (number a) (number b) (sym (ap (λ (word : List ℕ). unwrap_or (position (λ (def : Def). bytes_eq word (lowercase def.name)) definitions) 65535) lower))
      by_test false is = by_numbers (nat_eq (number a) (number b)) refl
        where
          by_numbers : (equal : Bool) → nat_eq (number a) (number b) ≡ equal → equal ≡ false
          by_numbers false e = refl
          by_numbers true e =
              let places : one.0 ≡ other.0 = sym own_a ∙ eqb-true (number a) (number b) e ∙ own_b in
              let first = has-own a one.0 one.1 in
              let second = has-own b other.0 other.1 in
              let same : first.0 ≡ second.0 = same_Some first.0 second.0 (sym first.1 ∙ ap (slice_get definitions) places ∙ second.1) in
              let words : lowercase b ≡ lowercase a = (bytes_eq-Decides (lowercase b) (lowercase second.0.name)).0 second.2 ∙ sym (ap (λ (def : Def). lowercase def.name) same) ∙ sym ((bytes_eq-Decides (lowercase a) (lowercase first.0.name)).0 first.2) in
              absurd (true≢false (sym ((bytes_eq-Decides (lowercase b) (lowercase a)).1 words) ∙ is))

  any-same : (before : List (List ℕ)) (name : List ℕ) → AreDefined before → IsDefined name → list_any (λ other. nat_eq other (number name)) (map number before) ≡ list_any (same_word name) before
  any-same [] name are is = refl
  any-same (first ∷ before) name are is = ap₂ (λ (a : Bool) (b : Bool). a || b) (same-object first name are.0 is) (any-same before name are.1 is)

  again-same : (before names : List (List ℕ)) → AreDefined before → AreDefined names → check.first_repeated (map number before) (map number names) ≡ option_map number (first_again before names)
  again-same before [] are more = refl
  again-same before (name ∷ names) are more =
      by_test (list_any (same_word name) before) refl
      (ap (λ (those : List ℕ). check.first_repeated those (map number names)) (sym (map-append number before (name ∷ [])))
      ∙ again-same (before ++ name ∷ []) names (defined-push before name are more.0) more.1)
    where
      Rest : Type 0
      Rest = check.first_repeated (map number before ++ number name ∷ []) (map number names) ≡ option_map number (first_again (before ++ name ∷ []) names)

      by_test : (test : Bool) → list_any (same_word name) before ≡ test → Rest → (if list_any (λ other. nat_eq other (number name)) (map number before) then Some (number name) else check.first_repeated (map number before ++ number name ∷ []) (map number names)) ≡ option_map number (cond (list_any (same_word name) before) (Some name) (first_again (before ++ name ∷ []) names))
      by_test true is rest =
          ap (λ (test : Bool). if test then Some (number name) else check.first_repeated (map number before ++ number name ∷ []) (map number names)) (any-same before name are more.0 ∙ is)
          ∙ sym (ap (λ (test : Bool). option_map number (cond test (Some name) (first_again (before ++ name ∷ []) names))) is)
      by_test false is rest =
          ap (λ (test : Bool). if test then Some (number name) else check.first_repeated (map number before ++ number name ∷ []) (map number names)) (any-same before name are more.0 ∙ is)
          ∙ rest ∙ sym (ap (λ (test : Bool). option_map number (cond test (Some name) (first_again (before ++ name ∷ []) names))) is)

  repeats-same : (names : List (List ℕ)) → AreDefined names → repeated_dimension definitions (map number names) ≡ option_map (λ (def : Def). Repeat def.name) (option_and_then (found_as definitions) (first_again [] names))
  repeats-same names are =
      ap (option_map (λ (def : Def). Repeat def.name)) (ap (option_and_then (slice_get definitions)) (again-same [] names tt are) ∙ by_name (first_again [] names))
    where
      by_name : (name : Option (List ℕ)) → option_and_then (slice_get definitions) (option_map number name) ≡ option_and_then (found_as definitions) name
      by_name None = refl
      by_name (Some name) = found-number name

-- ---- what a definition names

dimensions-defined : (definitions : List Def) (few : length definitions < 65536) (kind : NamedKind) → AreDefined definitions few (names_in kind) → AreDefined definitions few (dimensions_of kind)
dimensions-defined definitions few Dimension are = tt
dimensions-defined definitions few (Relation target base) are = tt
dimensions-defined definitions few (Valueset dimension) are = tt
dimensions-defined definitions few (Variable type dimensions) are = are

objects-checked : (definitions : List Def) (kind : NamedKind) → wrong_objects definitions (kind_of definitions kind) ≡ option_or (not_dimensions definitions (map (number_of definitions) (names_in kind))) (repeated_dimension definitions (map (number_of definitions) (dimensions_of kind)))
objects-checked definitions Dimension = refl
objects-checked definitions (Relation target base) = sym (or-none_right (not_dimensions definitions (number_of definitions target ∷ number_of definitions base ∷ [])))
objects-checked definitions (Valueset dimension) = sym (or-none_right (not_dimensions definitions (number_of definitions dimension ∷ [])))
objects-checked definitions (Variable type dimensions) = refl

module _ (definitions : List Def) (d : Definition) where
  abbrev def : Def
  def = def_of definitions d

  abbrev written : ℕ
  written = length (names_in d.kind)

  abbrev Refused : Refusal → Type 0
  Refused refusal = define_refusal definitions d ≡ Some refusal

  pub refused-there : (found : Def) → found_as definitions d.name ≡ Some found → Refused (report.repeated found.name)
  refused-there found is =
      ap (λ (one : Option Def). option_or (option_map (told definitions d) (option_map (λ (def : Def). Repeat def.name) one)) (cond (nat_lt 6 written) (Some report.too_many) (option_map (told definitions d) (refusal definitions def)))) is

  -- where the name is new, the numbers decide
  new-so : found_as definitions d.name ≡ None → define_refusal definitions d ≡ cond (nat_lt 6 written) (Some report.too_many) (option_map (told definitions d) (option_or (too_many definitions) (wrong_objects definitions def.kind)))
  new-so none =
      let first : Option Def → Option SchemaFault = λ one. option_map (λ (def : Def). Repeat def.name) one in
      ap (λ (one : Option Def). option_or (option_map (told definitions d) (first one)) (cond (nat_lt 6 written) (Some report.too_many) (option_map (told definitions d) (option_or (first one) (option_or (too_many definitions) (wrong_objects definitions def.kind)))))) none

  pub refused-full : found_as definitions d.name ≡ None → has_room definitions d ≡ false → Refused report.too_many
  refused-full none full = new-so none ∙ by_width (nat_lt 6 written) refl
    where
      many : (test : Bool) → nat_le 4096 (length definitions) ≡ test → 4096 ≤ length definitions → option_map (told definitions d) (option_or (if test then Some TooMany else None) (wrong_objects definitions def.kind)) ≡ Some report.too_many
      many true is most = refl
      many false is most = absurd (omega (arith, most, leb-false 4096 (length definitions) is))

      by_width : (wide : Bool) → nat_lt 6 written ≡ wide → cond wide (Some report.too_many) (option_map (told definitions d) (option_or (too_many definitions) (wrong_objects definitions def.kind))) ≡ Some report.too_many
      by_width true is = refl
      by_width false is =
          many (nat_le 4096 (length definitions)) refl (over-and (4096 ≤ length definitions) (nat_lt (length definitions) 4096) (nat_le written 6) full (λ long. ltb-false (length definitions) 4096 long) (λ wide. absurd (omega (arith, ltb-false 6 written is, leb-false written 6 wide))))

  module _ (none : found_as definitions d.name ≡ None) (room : has_room definitions d ≡ true) where
    short : length definitions < 4096
    short = ltb-true (length definitions) 4096 (and_parts (nat_lt (length definitions) 4096) (nat_le written 6) room).0

    narrow : written ≤ 6
    narrow = leb-true written 6 (and_parts (nat_lt (length definitions) 4096) (nat_le written 6) room).1

    few : length definitions < 65536
    few = omega (arith, short)

    not-wide : (wide : Bool) → nat_lt 6 written ≡ wide → wide ≡ false
    not-wide false is = refl
    not-wide true is = absurd (omega (arith, narrow, ltb-true 6 written is))

    not-many : (many : Bool) → nat_le 4096 (length definitions) ≡ many → many ≡ false
    not-many false is = refl
    not-many true is = absurd (omega (arith, short, leb-true 4096 (length definitions) is))

    abbrev objects : Option SchemaFault
    objects = option_or (not_dimensions definitions (map (number_of definitions) (names_in d.kind))) (repeated_dimension definitions (map (number_of definitions) (dimensions_of d.kind)))

    -- the objects that it names decide
    room-so : define_refusal definitions d ≡ option_map (told definitions d) objects
    room-so =
        new-so none
        ∙ ap (λ (wide : Bool). cond wide (Some report.too_many) (option_map (told definitions d) (option_or (too_many definitions) (wrong_objects definitions def.kind)))) (not-wide (nat_lt 6 written) refl)
        ∙ ap (λ (many : Bool). option_map (told definitions d) (option_or (if many then Some TooMany else None) (wrong_objects definitions def.kind))) (not-many (nat_le 4096 (length definitions)) refl)
        ∙ ap (option_map (told definitions d)) (objects-checked definitions d.kind)

    abbrev over_first : Option ℕ → Option SchemaFault
    over_first first = option_or (option_or (option_map Unknown first) (wrong_kind definitions (map (number_of definitions) (names_in d.kind)))) (repeated_dimension definitions (map (number_of definitions) (dimensions_of d.kind)))

    pub refused-undefined : (name : List ℕ) → first_undefined definitions d.kind ≡ Some name → Refused (report.unknown name)
    refused-undefined name is =
        room-so ∙ ap (λ (first : Option ℕ). option_map (told definitions d) (over_first first)) (first-past definitions few (names_in d.kind) ∙ ap (option_map (number_of definitions)) is)
        ∙ ap (λ (found : Option (List ℕ)). Some (report.unknown (unwrap_or found []))) is

    module _ (all_there : first_undefined definitions d.kind ≡ None) where
      abbrev over_other : Option Def → Option SchemaFault
      over_other other = option_or (option_map (λ (def : Def). WrongKind def.name) other) (repeated_dimension definitions (map (number_of definitions) (dimensions_of d.kind)))

      defined-so : define_refusal definitions d ≡ option_map (told definitions d) (over_other (first_other definitions d))
      defined-so =
          room-so ∙ ap (λ (first : Option ℕ). option_map (told definitions d) (over_first first)) (first-past definitions few (names_in d.kind) ∙ ap (option_map (number_of definitions)) all_there)
          ∙ ap (λ (those : List Def). option_map (told definitions d) (over_other (find (λ (def : Def). not (is_dimension def.kind)) those))) (found-all definitions few (names_in d.kind))

      pub refused-other : (other : Def) → first_other definitions d ≡ Some other → Refused (report.wrong_kind other.name)
      refused-other other is = defined-so ∙ ap (λ (found : Option Def). option_map (told definitions d) (over_other found)) is

      module _ (all_dimensions : first_other definitions d ≡ None) where
        dimensions-so : define_refusal definitions d ≡ option_map (told definitions d) (option_map (λ (def : Def). Repeat def.name) (first_repeated definitions d))
        dimensions-so =
            defined-so ∙ ap (λ (found : Option Def). option_map (told definitions d) (over_other found)) all_dimensions
            ∙ ap (option_map (told definitions d)) (repeats-same definitions few (dimensions_of d.kind) (dimensions-defined definitions few d.kind (all-defined definitions few (names_in d.kind) all_there)))

        pub refused-again : (again : Def) → first_repeated definitions d ≡ Some again → Refused (report.repeated again.name)
        refused-again again is =
            dimensions-so ∙ ap (λ (found : Option Def). option_map (told definitions d) (option_map (λ (def : Def). Repeat def.name) found)) is

        pub accepted-none : first_repeated definitions d ≡ None → define_refusal definitions d ≡ None
        accepted-none is =
            dimensions-so ∙ ap (λ (found : Option Def). option_map (told definitions d) (option_map (λ (def : Def). Repeat def.name) found)) is
