use Rattle.std.proofs.Common.{rules, ◌≡◌, ◌<◌, ◌∙◌, [], ◌∷◌, ◌++◌, ap, length, sym, subst}
use Rattle.std.specs.Prelude.{None}
use Rattle.indexmap.specs.IndexMap.{values}
use Rattle.aw_cell.specs.Names.{lowercase}
use Rattle.aw_schema.specs.Checking.{refusal}
use Rattle.aw_schema.proofs.Adding.{form-spellable, indexed-added, values-added}
use Rattle.aw_schema.proofs.catalogue.Catalogue.add.Goals as goal

pub definition_len-requires : goal.definition_len-requires
definition_len-requires c = form-spellable c.args.def c.requires.spellable

pub invariant_of-self-2 : goal.invariant_of-self-2
invariant_of-self-2 c =
    let lowered : c.in_ok-name.name.items ≡ lowercase c.args.def.name = search rules in
    let accepted : refusal (values c.self.inside.defs) c.args.def ≡ None = subst (λ all. refusal all c.args.def ≡ None) (sym c.self.view_is) c.requires.accepted in
    let few : length (values c.self.inside.defs) < 4096 = subst (λ all. length all < 4096) (sym c.self.view_is) c.requires.room in
    indexed-added c.self.inside.defs c.self.inside.bytes c.self.invariant c.in_ok-name.name c.args.def lowered accepted c.insert.new.self c.in_ok-insert.ensures.entries c.requires.spellable few c.definition_len.result c.definition_len.ensures.value c.definition_len.ensures.below

pub returns-clause-ok : goal.returns-clause-ok
returns-clause-ok c =
    let lowered : c.in_ok-name.name.items ≡ lowercase c.args.def.name = search rules in
    let accepted : refusal (values c.self.inside.defs) c.args.def ≡ None = subst (λ all. refusal all c.args.def ≡ None) (sym c.self.view_is) c.requires.accepted in
    let counted : c.len-object.result ≡ length c.args.self.now = c.len-object.ensures.value in
    (counted, values-added c.self.inside.defs c.self.inside.bytes c.self.invariant c.in_ok-name.name c.args.def lowered accepted c.insert.new.self c.in_ok-insert.ensures.entries ∙ ap (λ all. all ++ c.args.def ∷ []) c.self.view_is)
