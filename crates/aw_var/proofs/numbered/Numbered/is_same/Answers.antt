use Rattle.std.proofs.Common.{◌≡◌, ◌∙◌, sym, ap, rules}
use denote.Enum.Bare.{same_true}
use Rattle.aw_cell.specs.contracts.cell.Kind.{the_type}
use Rattle.aw_var.specs.inside.NumberedMap.{NumberedMap}
use Rattle.aw_var.proofs.SameSheets.{equal_maps}
use Rattle.aw_var.proofs.numbered.Numbered.is_same.Goals as goal

pub returns-then-eq : goal.returns-then-eq
returns-then-eq c =
    let same : c.self.inside.kind ≡ c.other.inside.kind = same_true the_type (search rules) _ _ (sym c.if-eq.ensures) in
    equal_maps c.self.inside.kind c.other.inside.kind c.self.inside.sheets c.other.inside.sheets c.args.self.now c.args.other.now c.eq-then-eq.result c.self.invariant.sheets c.other.invariant.sheets c.self.view_is c.other.view_is
    (ap (λ (m : NumberedMap). m.kind) (sym c.self.view_is) ∙ same ∙ ap (λ (m : NumberedMap). m.kind) c.other.view_is) c.eq-then-eq.ensures
