use Rattle.std.proofs.Common.{◌∙◌, sym}
use Rattle.script_play.proofs.Drafting.{kept_so, can_be_kept, never_none}
use Rattle.script_play.proofs.draft.draft_kept.Goals as goal

pub unreachable-requires : goal.unreachable-requires
unreachable-requires c = never_none c.args.tree c.args.drafted.now (sym c.kept_kind.ensures ∙ c.in-None.is) c.requires.built

pub draft_definition-requires : goal.draft_definition-requires
draft_definition-requires c = can_be_kept c.args.tree c.in-Some.kind c.args.drafted.now (sym c.kept_kind.ensures ∙ c.in-Some.is) c.requires.form

pub returns-in-Ok-clause-ok : goal.returns-in-Ok-clause-ok
returns-in-Ok-clause-ok c =
    kept_so c.args.tree c.in-Some.kind c.in-Ok.refusal c.args.drafted.now c.draft_definition.new.drafted (sym c.kept_kind.ensures ∙ c.in-Some.is) c.in-Ok.ensures.ok
