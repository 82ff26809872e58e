use Rattle.std.proofs.Common.{◌≡◌, ℕ, ◌<◌, ◌↔◌, ◌∙◌, IsTrue, ap, sym, subst, length}
use Rattle.aw_var.specs.declared.variable.TheConstants.{MOST_PAGES}
use Rattle.aw_var.specs.Variable.{Contents}
use Rattle.aw_var.specs.inside.NumberedMap.{set_of}
use Rattle.aw_var.specs.inside.Sheets.{number_pages}
use Rattle.aw_var.proofs.Unpacking.{pages-key}
use Rattle.aw_var.proofs.variable.Variable.is_full_for.Goals as goal

pub returns : goal.returns
returns c =
    let size : length c.args.at.now ≡ c.self.inside.slots = c.requires.slots ∙ ap (λ (v : Contents). v.slots) (sym c.self.view_is) in
    let same = ap (λ n. number_pages (set_of c.self.inside.cells.cells n c.args.cell.now)) c.number_of.ensures.value
    ∙ pages-key c.self.inside.slots c.args.at.now c.args.cell.now c.self.inside.cells c.args.self.now c.number_of.ensures.slots size c.self.invariant c.self.view_is in
    subst (λ (n : ℕ). IsTrue c.needs_more.result ↔ (MOST_PAGES < n)) same c.needs_more.ensures
