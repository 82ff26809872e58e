-- What a catalogue answers to a definition is what its line is answered.
use Rattle.std.specs.Prelude.{◌≡◌, ◌≢◌, ◌⊎◌, ℕ, Bool, true, false, cond, List, [], length, nat_lt, slice_get, find, Option, None, Some, Result, Ok, Err, IsTrue, is_ok, unwrap_or, refl}
use Rattle.std.specs.List.{position_or_len}
use Rattle.std.specs.Option.{option_and_then, option_map, option_or}
use Rattle.std.proofs.Common.{◌∙◌, ap, sym, subst, ⊎_elim}
use Rattle.std.proofs.lemmas.Bool.{true≢false, ltb-false}
use Rattle.std.proofs.lemmas.List.Folds.{find_at}
use Rattle.std.proofs.lemmas.Option.{none-some, same_Some, slice_get_past}
use Rattle.aw_schema.specs.declared.definition.Def.{Def}
use Rattle.aw_schema.specs.declared.definition.DefKind.{DefKind}
use Rattle.aw_schema.specs.declared.fault.SchemaFault.{SchemaFault}
use Rattle.aw_schema.specs.declared.fault.SchemaFault.TheVariants.{Repeat, TooMany, Unknown, WrongKind, NoMemory}
use Rattle.aw_schema.specs.Checking.{refusal, answer, IsAnswer, catalogue_after}
use Rattle.aw_schema.specs.Definitions.{has_name, object_of, is_spellable}
use Rattle.dml_tree.specs.declared.definition.Definition.{Definition as Tree}
use Rattle.dml_grammar.specs.declared.fault.ParseFault.{ParseFault}
use Rattle.dml_grammar.specs.declared.fault.ParseFault.TheVariants as parse_fault
use Rattle.dml_lines.specs.Lines.{definition_in}
use Rattle.dml_tree.specs.declared.definition.Defined.{Defined}
use Rattle.dml_tree.specs.declared.definition.Defined.TheVariants.{Formula}
use Rattle.dml_tree.specs.declared.expr.Expr.{Expr}
use Rattle.dml_kinds.specs.declared.checking.TypedExpr.{TypedExpr}
use Rattle.dml_kinds.specs.declared.fault.TypeFault.{TypeFault}
use Rattle.dml_kinds.specs.declared.signature.Signature.{Signature}
use Rattle.dml_kinds.specs.declared.fault.TypeFault.TheVariants as types_fault
use Rattle.dml_kinds.specs.Meanings.{Names, names_in as kinds_in}
use Rattle.dml_kinds.specs.Checking.{IsAnswer as IsTypes, answer as types_answer, formula_refusal, formula_typed, formula_answer}
use Rattle.ses_report.specs.declared.refusal.Refusal.{Refusal}
use Rattle.ses_report.specs.Refusals.{no_form, repeated, too_many}
use Rattle.ses_step.specs.declared.definition.Definition.{Definition}
use Rattle.ses_step.specs.declared.definition.NamedKind.{NamedKind}
use Rattle.ses_step.specs.Kept.{kept_kind}
use Rattle.ses_step.specs.Refusing.{told as types_told}
use Rattle.script_meaning.specs.Defining.{kind_of, def_of, names_in, told, define_refusal, accepted_by, defined}
use Rattle.script_meaning.specs.DefinitionLines.{is_block, name_refusal, form_refusal, fault_refusal, unbuilt, define_kind, define_read, define_unless}
use Rattle.script_meaning.proofs.callers.LineDefinitions.{spellable-formed, read-formed}
use Rattle.script_play.specs.inside.Drafts.{name_there, refusal_told, drafted_after, DraftsSo, drafted_by, Drafts, DraftsLines, DraftsTree, unbuilt_refusal, CanBeDrafted}

-- the object that a name has is the one that is found
pub there_found : (drafted : List Def) (name : List ℕ) → name_there drafted name ≡ option_map (λ (def : Def). def.name) (option_and_then (slice_get drafted) (object_of drafted name))
there_found drafted name = ap (option_map (λ (def : Def). def.name)) (find_at (has_name name) drafted ∙ by_place (nat_lt first (length drafted)) refl)
  where
    first : ℕ
    first = position_or_len (has_name name) drafted

    by_place : (inside : Bool) → nat_lt first (length drafted) ≡ inside → slice_get drafted first ≡ option_and_then (slice_get drafted) (cond inside (Some first) None)
    by_place true is = refl
    by_place false is = slice_get_past drafted first (ltb-false first (length drafted) is)

-- what is made of some names, where there are at most 6
abbrev narrow_only : {A : Type 0} → ℕ → A → Option A
narrow_only many it = cond (nat_lt 6 many) None (Some it)

module _ (drafted : List Def) (d : Definition) where
  abbrev many : ℕ
  many = length (names_in d.kind)

  -- what a definition whose name isn't there is refused for
  abbrev behind : Option Refusal
  behind = cond (nat_lt 6 many) (Some too_many) (option_map (told drafted d) (refusal drafted (def_of drafted d)))

  by_name : define_refusal drafted d ≡ option_or (option_map repeated (name_there drafted d.name)) behind
  by_name = by_found (find (has_name d.name) drafted)
    where
      by_found : (found : Option Def) → option_or (option_map (told drafted d) (option_map (λ (def : Def). Repeat def.name) found)) behind ≡ option_or (option_map repeated (option_map (λ (def : Def). def.name) found)) behind
      by_found None = refl
      by_found (Some def) = refl

  new-name : name_there drafted d.name ≡ None → define_refusal drafted d ≡ behind
  new-name none = by_name ∙ ap (λ there. option_or (option_map repeated there) behind) none

  -- the definition with such a kind, of at most 6 dimensions
  abbrev of_kind : DefKind → Def
  of_kind kind = record { name = d.name; kind = kind }

  narrow : (kind : DefKind) → Some kind ≡ narrow_only many (kind_of drafted d.kind) → (kind ≡ kind_of drafted d.kind) × (behind ≡ option_map (told drafted d) (refusal drafted (def_of drafted d)))
  narrow kind = by_test (nat_lt 6 many)
    where
      rest : Option Refusal
      rest = option_map (told drafted d) (refusal drafted (def_of drafted d))

      by_test : (test : Bool) → Some kind ≡ cond test None (Some (kind_of drafted d.kind)) → (kind ≡ kind_of drafted d.kind) × (cond test (Some too_many) rest ≡ rest)
      by_test true is = absurd (none-some kind (sym is))
      by_test false is = (same_Some kind (kind_of drafted d.kind) is, refl)

  -- what the catalogue finds wrong is what the line is refused for
  refused-as : (kind : DefKind) → name_there drafted d.name ≡ None → Some kind ≡ narrow_only many (kind_of drafted d.kind) → define_refusal drafted d ≡ option_map (told drafted d) (refusal drafted (of_kind kind))
  refused-as kind none is =
      new-name none ∙ (narrow kind is).1 ∙ ap (λ (kind : DefKind). option_map (told drafted d) (refusal drafted (of_kind kind))) (sym (narrow kind is).0)

  abbrev answered : Option SchemaFault → Result ℕ SchemaFault
  answered wrong = elim wrong [ Some fault ↦ Err fault | None ↦ Ok (length drafted) ]

  ok-none : (object : ℕ) (wrong : Option SchemaFault) → IsAnswer (Ok object) (answered wrong) → wrong ≡ None
  ok-none object None is = refl
  ok-none object (Some fault) is = ⊎_elim (λ full. absurd (true≢false (ap is_ok full))) (λ same. absurd (true≢false (ap is_ok same))) is

  abbrev fault_of : SchemaFault → Result ℕ SchemaFault → SchemaFault
  fault_of fault (Ok object) = fault
  fault_of fault (Err e) = e

  err-some : (fault : SchemaFault) → fault ≢ NoMemory → (wrong : Option SchemaFault) → IsAnswer (Err fault) (answered wrong) → wrong ≡ Some fault
  err-some fault no_want None is = ⊎_elim (λ full. absurd (no_want (ap (fault_of fault) full))) (λ same. absurd (true≢false (ap is_ok (sym same)))) is
  err-some fault no_want (Some e) is = ⊎_elim (λ full. absurd (no_want (ap (fault_of fault) full))) (λ same. ap Some (sym (ap (fault_of fault) same))) is

  pub accepted_so : (kind : DefKind) (object : ℕ) (new : List Def) → name_there drafted d.name ≡ None → Some kind ≡ narrow_only many (kind_of drafted d.kind) → IsAnswer (Ok object) (answer drafted (of_kind kind)) → new ≡ catalogue_after drafted (of_kind kind) (Ok object) → DraftsSo d None drafted new
  accepted_so kind object new none is answers after = (
    sym (refused-as kind none is ∙ ap (option_map (told drafted d)) (ok-none object (refusal drafted (of_kind kind)) answers)),
    after ∙ ap (λ (kind : DefKind). catalogue_after drafted (of_kind kind) (Ok object)) (narrow kind is).0,
  )

  told-so : (drafts : List Def) (fault : SchemaFault) (reply : Refusal) → Some reply ≡ refusal_told drafts d fault → reply ≡ told drafts d fault
  told-so drafts NoMemory reply is = absurd (none-some reply (sym is))
  told-so drafts (Repeat name) reply is = same_Some reply (told drafts d (Repeat name)) is
  told-so drafts TooMany reply is = same_Some reply (told drafts d TooMany) is
  told-so drafts (Unknown object) reply is = same_Some reply (told drafts d (Unknown object)) is
  told-so drafts (WrongKind name) reply is = same_Some reply (told drafts d (WrongKind name)) is

  pub refused_so : (kind : DefKind) (fault : SchemaFault) (reply : Refusal) (new : List Def) → name_there drafted d.name ≡ None → Some kind ≡ narrow_only many (kind_of drafted d.kind) → IsAnswer (Err fault) (answer drafted (of_kind kind)) → new ≡ drafted → Some reply ≡ refusal_told new d fault → DraftsSo d (Some reply) drafted new
  refused_so kind fault reply new none is answers after reply_is =
      let no_want : fault ≢ NoMemory = λ same. none-some reply (sym (reply_is ∙ ap (refusal_told new d) same)) in (
        ap Some (told-so new fault reply reply_is ∙ ap (λ (drafts : List Def). told drafts d fault) after)
            ∙ sym (refused-as kind none is ∙ ap (option_map (told drafted d)) (err-some fault no_want (refusal drafted (of_kind kind)) answers)),
        after,
      )

-- ---- lines

-- what is drafted, as the answer of the lines
drafted-as : (old new : List Def) (d : Definition) (refusal : Option Refusal) → DraftsSo d refusal old new → Drafts (defined old d) refusal old new
drafted-as old new d refusal it = (it.0 ∙ told-back why, it.1 ∙ ap (λ r. drafted_after r old d) it.0 ∙ kept-back why)
  where
    why : Option Refusal
    why = define_refusal old d

    told-back : (r : Option Refusal) → r ≡ (drafted_by old (accepted_by old d r)).refusal
    told-back None = refl
    told-back (Some refusal) = refl

    kept-back : (r : Option Refusal) → drafted_after r old d ≡ (drafted_by old (accepted_by old d r)).drafted
    kept-back None = refl
    kept-back (Some refusal) = refl

module _ (tree : Tree) where
  -- the definition of such a kind
  abbrev of_named : NamedKind → Definition
  of_named kind = record { name = tree.name; kind = kind }

  pub kept_so : (kind : NamedKind) (refusal : Option Refusal) (old new : List Def) → kept_kind tree.what ≡ Some kind → DraftsSo (of_named kind) refusal old new → DraftsTree tree refusal old new
  kept_so kind refusal old new is it = subst (λ (found : Option NamedKind). Drafts (define_kind old tree found) refusal old new) (sym is) (drafted-as old new (of_named kind) refusal it)

  pub unbuilt_so : (refusal : Refusal) (old : List Def) → Some refusal ≡ unbuilt_refusal old tree → DraftsTree tree (Some refusal) old old
  unbuilt_so refusal old = by (kept_kind tree.what)
    where
      by : (found : Option NamedKind) → Some refusal ≡ elim found [ None ↦ Some (unbuilt old tree.name tree.what) | Some kind ↦ None ] → Drafts (define_kind old tree found) (Some refusal) old old
      by None is = (is, refl)
      by (Some kind) is = absurd (none-some refusal (sym is))

  pub can_be_kept : (kind : NamedKind) (old : List Def) → kept_kind tree.what ≡ Some kind → CanBeDrafted tree → IsTrue (is_spellable (def_of old (of_named kind)))
  can_be_kept kind old is can = can kind is old

  -- what is built is kept
  pub never_none : (old : List Def) → kept_kind tree.what ≡ None → unbuilt_refusal old tree ≢ None
  never_none old is none =
      none-some (unbuilt old tree.name tree.what) (sym none ∙ ap (λ (found : Option NamedKind). let told : Option Refusal = elim found [ None ↦ Some (unbuilt old tree.name tree.what) | Some kind ↦ None ] in told) is)

module _ (lines : List (List ℕ)) where
  pub can_be_drafted : (tree : Tree) → definition_in lines ≡ Ok tree → CanBeDrafted tree
  can_be_drafted tree is = λ kind kept drafted. spellable-formed drafted (record { name = tree.name; kind = kind }) (read-formed lines tree is kind kept)

  pub form_so : (refusal : Refusal) (old : List Def) → form_refusal lines ≡ Some refusal → DraftsLines lines (Some refusal) old old
  form_so refusal old is = subst (λ (found : Option Refusal). Drafts (define_unless found old lines) (Some refusal) old old) (sym is) (refl, refl)

  pub read_so : (tree : Tree) (refusal : Option Refusal) (old new : List Def) → form_refusal lines ≡ None → definition_in lines ≡ Ok tree → DraftsTree tree refusal old new → DraftsLines lines refusal old new
  read_so tree refusal old new none is it =
      subst (λ (found : Option Refusal). Drafts (define_unless found old lines) refusal old new) (sym none)
      (subst (λ (found : Result Tree ParseFault). Drafts (define_read old (is_block lines) found) refusal old new) (sym is) it)

  pub fault_so : (fault : ParseFault) (refusal : Refusal) (old : List Def) → form_refusal lines ≡ None → fault ≢ parse_fault.NoMemory → (fault ≡ parse_fault.NoMemory) ⊎ (definition_in lines ≡ Err fault) → refusal ≡ fault_refusal (is_block lines) fault → DraftsLines lines (Some refusal) old old
  fault_so fault refusal old none no_want found told_is = ⊎_elim (λ full. absurd (no_want full)) by found
    where
      by : definition_in lines ≡ Err fault → DraftsLines lines (Some refusal) old old
      by is =
          subst (λ (found : Option Refusal). Drafts (define_unless found old lines) (Some refusal) old old) (sym none)
          (subst (λ (found : Result Tree ParseFault). Drafts (define_read old (is_block lines) found) (Some refusal) old old) (sym is) (ap Some told_is, refl))

-- ---- a formula, which can't be defined yet

abbrev type_fault : TypeFault → Result TypedExpr TypeFault → TypeFault
type_fault fault (Ok typed) = fault
type_fault fault (Err other) = other

module _ (drafted : List Def) (name : List ℕ) (e : Expr) (from to : ℕ) where
  abbrev names : Names
  names = kinds_in drafted [] []

  abbrev by_name_first : Option Refusal → Refusal
  by_name_first named = unwrap_or (option_or named (option_map types_told (formula_refusal names e))) no_form

  abbrev by_fault : Option TypeFault → Refusal
  by_fault fault = unwrap_or (option_map types_told fault) no_form

  pub formula_named : (refusal : Refusal) → name_refusal drafted name ≡ Some refusal → refusal ≡ unbuilt drafted name (Formula e from to)
  formula_named refusal is = sym (ap by_name_first is)

  formula_first : name_refusal drafted name ≡ None → unbuilt drafted name (Formula e from to) ≡ by_fault (formula_refusal names e)
  formula_first none = ap by_name_first none

  pub formula_bad : (fault : TypeFault) → fault ≢ types_fault.NoMemory → name_refusal drafted name ≡ None → (known : List (ℕ × Signature)) → known ≡ [] → IsTypes (Err fault) (formula_answer (kinds_in drafted known []) e) → types_told fault ≡ unbuilt drafted name (Formula e from to)
  formula_bad fault no_want none known no_known is = by (formula_refusal names e) refl (subst (λ (known : List (ℕ × Signature)). IsTypes (Err fault) (formula_answer (kinds_in drafted known []) e)) no_known is)
    where
      by : (found : Option TypeFault) → formula_refusal names e ≡ found → IsTypes (Err fault) (types_answer found (formula_typed names e)) → types_told fault ≡ unbuilt drafted name (Formula e from to)
      by None found is = ⊎_elim (λ full. absurd (no_want (ap (type_fault fault) full))) (λ same. absurd (true≢false (ap is_ok (sym same)))) is
      by (Some other) found is =
          ⊎_elim (λ full. absurd (no_want (ap (type_fault fault) full))) (λ same. ap types_told (ap (type_fault fault) same) ∙ sym (formula_first none ∙ ap by_fault found)) is

  pub formula_fine : (typed : TypedExpr) → name_refusal drafted name ≡ None → (known : List (ℕ × Signature)) → known ≡ [] → IsTypes (Ok typed) (formula_answer (kinds_in drafted known []) e) → no_form ≡ unbuilt drafted name (Formula e from to)
  formula_fine typed none known no_known is = by (formula_refusal names e) refl (subst (λ (known : List (ℕ × Signature)). IsTypes (Ok typed) (formula_answer (kinds_in drafted known []) e)) no_known is)
    where
      by : (found : Option TypeFault) → formula_refusal names e ≡ found → IsTypes (Ok typed) (types_answer found (formula_typed names e)) → no_form ≡ unbuilt drafted name (Formula e from to)
      by None found is = sym (formula_first none ∙ ap by_fault found)
      by (Some other) found is = ⊎_elim (λ full. absurd (true≢false (ap is_ok full))) (λ same. absurd (true≢false (ap is_ok same))) is

-- what a formula is refused for is what its tree is refused for
pub formula_told : (drafted : List Def) (tree : Tree) (e : Expr) (from to : ℕ) (refusal : Refusal) → tree.what ≡ Formula e from to → ((from to : ℕ) → refusal ≡ unbuilt drafted tree.name (Formula e from to)) → Some refusal ≡ unbuilt_refusal drafted tree
formula_told drafted tree e from to refusal is told_is =
    subst (λ (what : Defined). Some refusal ≡ elim (kept_kind what) [ None ↦ Some (unbuilt drafted tree.name what) | Some kind ↦ None ]) (sym is) (ap Some (told_is from to))
