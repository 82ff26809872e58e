-- How a definition is answered at its last line.
use Rattle.std.specs.Prelude.{◌≡◌, ℕ, Bool, true, false, List, [], Option, Some, None, IsSome, Ok, Err, refl}
use Rattle.std.proofs.Common.{◌∙◌, ap, sym, subst}
use Rattle.std.proofs.lemmas.Bool.{true≢false}
use Rattle.std.proofs.lemmas.Option.{none-some}
use Rattle.aw_schema.specs.declared.definition.Def.{Def}
use Rattle.dml_tree.specs.declared.definition.Definition.{Definition as Tree}
use Rattle.dml_grammar.specs.declared.fault.ParseFault.{ParseFault}
use Rattle.dml_lines.specs.Lines.{DefinitionRead, definition_in}
use Rattle.ses_report.specs.declared.refusal.Refusal.{Refusal}
use Rattle.ses_report.specs.Reports as report
use Rattle.ses_step.specs.declared.definition.Definition.{Definition}
use Rattle.ses_step.specs.declared.definition.NamedKind.{NamedKind}
use Rattle.ses_step.specs.Kept.{kept_kind}
use Rattle.script_world.specs.Meaning as world
use Rattle.script_world.specs.Outcomes.{Outcome}
use Rattle.script_world.specs.Worlds.{Answered, line, defined_so, defined_before, form_planned, settled, answered}
use Rattle.script_meaning.specs.Defining.{def_of, first_undefined, define_refusal, accepted_by, defined}
use Rattle.script_meaning.specs.DefinitionAnswers.{found_as, has_room, first_other, first_repeated, IsRefused, IsAccepted, HasNoCause, AnswersDefinition, lines_to, DefinitionsAreAnswered, BlocksAreOpen}
use Rattle.script_meaning.specs.DefinitionLines.{is_block, form_refusal, fault_refusal, unbuilt, define_kind, define_read, define_unless, define, late}
use Rattle.script_meaning.specs.Language.{language, Written, form, HistoryDisk, HistoryWorld, by_history}
use Rattle.script_meaning.proofs.DefinitionCauses.{refused-there, refused-full, refused-undefined, refused-other, refused-again, accepted-none}

module _ (coming : List Outcome) (w : HistoryWorld) (text : List ℕ) (ends : form w.open_lines text ≡ world.ends) where
  abbrev lines : List (List ℕ)
  lines = lines_to w text

  -- the lines are answered as one definition
  line-defines : answered (by_history coming) w (line text) ≡ defined_before w w.shared lines
  line-defines = ap (λ (f : world.Form Written). settled (by_history coming) (form_planned (by_history coming).opens w text f)) ends

  closed-answer : IsSome w.shared → IsRefused coming w text (late lines)
  closed-answer opened = by_shared w.shared refl
    where
      by_shared : (shared : Option HistoryDisk) → w.shared ≡ shared → IsRefused coming w text (late lines)
      by_shared None none = absurd (true≢false (sym (subst IsSome none opened)))
      by_shared (Some disk) some = line-defines ∙ ap (λ (shared : Option HistoryDisk). defined_before w shared lines) some

  module _ (none : w.shared ≡ None) where
    open-defines : answered (by_history coming) w (line text) ≡ defined_so w (define w.definitions lines)
    open-defines = line-defines ∙ ap (λ (shared : Option HistoryDisk). defined_before w shared lines) none

    formless-answer : (refusal : Refusal) → form_refusal lines ≡ Some refusal → IsRefused coming w text refusal
    formless-answer refusal is =
        open-defines ∙ ap (λ (found : Option Refusal). defined_so w (define_unless found w.definitions lines)) is

    module _ (formed : form_refusal lines ≡ None) where
      read-defines : answered (by_history coming) w (line text) ≡ defined_so w (define_read w.definitions (is_block lines) (definition_in lines))
      read-defines = open-defines ∙ ap (λ (found : Option Refusal). defined_so w (define_unless found w.definitions lines)) formed

      syntax-answer : (fault : ParseFault) → definition_in lines ≡ Err fault → IsRefused coming w text (fault_refusal (is_block lines) fault)
      syntax-answer fault is =
          read-defines ∙ ap (λ (r : DefinitionRead). defined_so w (define_read w.definitions (is_block lines) r)) is

      module _ (d : Tree) (is : definition_in lines ≡ Ok d) where
        tree-defines : answered (by_history coming) w (line text) ≡ defined_so w (define_kind w.definitions d (kept_kind d.what))
        tree-defines =
            read-defines ∙ ap (λ (r : DefinitionRead). defined_so w (define_read w.definitions (is_block lines) r)) is

        unbuilt-answer : kept_kind d.what ≡ None → IsRefused coming w text (unbuilt w.definitions d.name d.what)
        unbuilt-answer other = tree-defines ∙ ap (λ (kind : Option NamedKind). defined_so w (define_kind w.definitions d kind)) other

        kind-defines : (kind : NamedKind) → kept_kind d.what ≡ Some kind → answered (by_history coming) w (line text) ≡ defined_so w (defined w.definitions (record { name = d.name; kind = kind }))
        kind-defines kind kept = tree-defines ∙ ap (λ (found : Option NamedKind). defined_so w (define_kind w.definitions d found)) kept

module _ (coming : List Outcome) (w : HistoryWorld) (text : List ℕ) (d : Definition) (defines : answered (by_history coming) w (line text) ≡ defined_so w (defined w.definitions d)) where
  answer-by : (found : Option Refusal) → define_refusal w.definitions d ≡ found → answered (by_history coming) w (line text) ≡ defined_so w (accepted_by w.definitions d found)
  answer-by found by = defines ∙ ap (λ (one : Option Refusal). defined_so w (accepted_by w.definitions d one)) by

  refused-by : (refusal : Refusal) → define_refusal w.definitions d ≡ Some refusal → IsRefused coming w text refusal
  refused-by refusal by = answer-by (Some refusal) by

  accepted-by : define_refusal w.definitions d ≡ None → IsAccepted coming w text (def_of w.definitions d)
  accepted-by by = answer-by None by

  -- a refused line has an answer
  refused-never : {P : Type 0} (refusal : Refusal) → define_refusal w.definitions d ≡ Some refusal → (answered (by_history coming) w (line text)).answer ≡ None → P
  refused-never refusal by quiet =
      let answer : report.Answer = record { output = []; refusal = Some refusal } in
      absurd (none-some answer (sym quiet ∙ ap (λ (a : Answered language HistoryDisk). a.answer) (refused-by refusal by)))

  no-cause : (answered (by_history coming) w (line text)).answer ≡ None → HasNoCause w.definitions d
  no-cause quiet = by_name (found_as w.definitions d.name) refl
    where
      by_again : found_as w.definitions d.name ≡ None → has_room w.definitions d ≡ true → first_undefined w.definitions d.kind ≡ None → first_other w.definitions d ≡ None → (found : Option Def) → first_repeated w.definitions d ≡ found → HasNoCause w.definitions d
      by_again new room all dimensions None is = record { is_new = new; room = room; all_defined = all; all_dimensions = dimensions; differ = is }
      by_again new room all dimensions (Some def) is = refused-never _ (refused-again w.definitions d new room all dimensions def is) quiet

      by_other : found_as w.definitions d.name ≡ None → has_room w.definitions d ≡ true → first_undefined w.definitions d.kind ≡ None → (found : Option Def) → first_other w.definitions d ≡ found → HasNoCause w.definitions d
      by_other new room all None is = by_again new room all is (first_repeated w.definitions d) refl
      by_other new room all (Some def) is = refused-never _ (refused-other w.definitions d new room all def is) quiet

      by_undefined : found_as w.definitions d.name ≡ None → has_room w.definitions d ≡ true → (found : Option (List ℕ)) → first_undefined w.definitions d.kind ≡ found → HasNoCause w.definitions d
      by_undefined new room None is = by_other new room is (first_other w.definitions d) refl
      by_undefined new room (Some name) is = refused-never _ (refused-undefined w.definitions d new room name is) quiet

      by_room : found_as w.definitions d.name ≡ None → (room : Bool) → has_room w.definitions d ≡ room → HasNoCause w.definitions d
      by_room new true is = by_undefined new is (first_undefined w.definitions d.kind) refl
      by_room new false is = refused-never _ (refused-full w.definitions d new is) quiet

      by_name : (found : Option Def) → found_as w.definitions d.name ≡ found → HasNoCause w.definitions d
      by_name None is = by_room is (has_room w.definitions d) refl
      by_name (Some def) is = refused-never _ (refused-there w.definitions d def is) quiet

  pub definition-answered : AnswersDefinition coming w text d
  definition-answered = record {
    there = λ def found. refused-by _ (refused-there w.definitions d def found);
    full = λ new full. refused-by _ (refused-full w.definitions d new full);
    unknown = λ new room name first. refused-by _ (refused-undefined w.definitions d new room name first);
    other = λ new room all def first. refused-by _ (refused-other w.definitions d new room all def first);
    again = λ new room all dimensions def first. refused-by _ (refused-again w.definitions d new room all dimensions def first);
    accepted = λ it. accepted-by (accepted-none w.definitions d it.is_new it.room it.all_defined it.all_dimensions it.differ);
    only = no-cause;
  }

pub definitions_answered : (coming : List Outcome) (w : HistoryWorld) → DefinitionsAreAnswered coming w
definitions_answered coming w text ends = record {
  formless = λ none refusal is. formless-answer coming w text ends none refusal is;
  syntax = λ none formed fault is. syntax-answer coming w text ends none formed fault is;
  unbuilt = λ none formed d is other. unbuilt-answer coming w text ends none formed d is other;
  built = λ none formed d is kind kept. definition-answered coming w text (record { name = d.name; kind = kind }) (kind-defines coming w text ends none formed d is kind kept);
  closed = closed-answer coming w text ends;
}

pub blocks_open : (coming : List Outcome) (w : HistoryWorld) → BlocksAreOpen coming w
blocks_open coming w text joins =
    ap (λ (f : world.Form Written). settled (by_history coming) (form_planned (by_history coming).opens w text f)) joins
