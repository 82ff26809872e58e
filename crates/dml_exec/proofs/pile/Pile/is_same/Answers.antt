use Rattle.std.proofs.Common.{◌∙◌, sym, ap, reverse}
use Rattle.std.proofs.lemmas.Slice.Eq.{slice_eq-Decides}
use Rattle.dml_exec.proofs.FreeDimensions.{kind-Decides, reversed-same}
use Rattle.dml_exec.proofs.pile.Pile.is_same.Goals as goal

pub returns : goal.returns
returns c =
    let d = slice_eq-Decides kind-Decides c.as_slice.result.now c.as_slice-2.result.now c.eq.result c.eq.ensures in (
      λ t. sym c.self.view_is ∙ ap reverse (sym c.as_slice.ensures.value ∙ d.0 t ∙ c.as_slice-2.ensures.value) ∙ c.other.view_is,
      λ e. d.1 (c.as_slice.ensures.value ∙ reversed-same c.self.inside.kinds.items c.other.inside.kinds.items (c.self.view_is ∙ e ∙ sym c.other.view_is) ∙ sym c.as_slice-2.ensures.value),
    )
