use Rattle.std.proofs.Common.{◌∙◌, refl, sym, ap, ◌-◌, ◌+◌, ◌%◌, slice_set}
use Rattle.std.specs.List.{list_all}
use Rattle.aw_cell.specs.declared.cell.Cell.{Cell}
use Rattle.aw_page.specs.Fitting.{is_na}
use Rattle.aw_var.proofs.PageCounts.{pages-blank, pages-kept, pages-used, pages-none, pages-new}
use Rattle.aw_var.proofs.numbered.Numbered.pages_with.Goals as goal

pub returns-in-Some : goal.returns-in-Some
returns-in-Some c = record { pages = ap (λ n. n - 1) c.len-count.ensures.len ∙ pages-blank c.self.inside.kind c.self.inside.sheets.entries c.args.number c.args.cell.now c.args.self.now c.in-Some.sheet.now c.self.invariant.sheets c.self.view_is c.requires c.in-Some.ensures.value (c.if-eq.ensures.equal.0 refl) (sym c.if-is_blank_without.ensures) }

pub returns-in-Some-2 : goal.returns-in-Some-2
returns-in-Some-2 c = record { pages = c.len-count.ensures.len ∙ pages-kept c.self.inside.kind c.self.inside.sheets.entries c.args.number c.args.cell.now c.args.self.now c.in-Some.sheet.now c.self.invariant.sheets c.self.view_is c.requires c.in-Some.ensures.value (ap (λ (x : Cell). list_all is_na (slice_set c.in-Some.sheet.now.1 (c.args.number % 64) x)) (c.if-eq.ensures.equal.0 refl) ∙ sym c.if-is_blank_without.ensures) }

pub returns-in-Some-2-2 : goal.returns-in-Some-2-2
returns-in-Some-2-2 c = record { pages = c.len-count.ensures.len ∙ pages-used c.self.inside.kind c.self.inside.sheets.entries c.args.number c.args.cell.now c.args.self.now c.in-Some.sheet.now c.self.invariant.sheets c.self.view_is c.requires c.in-Some.ensures.value (λ na. let t = c.if-eq.ensures.equal.1 na in cc) }

pub returns-in-None : goal.returns-in-None
returns-in-None c = record { pages = c.len-count.ensures.len ∙ pages-none c.self.inside.kind c.self.inside.sheets.entries c.args.number c.args.cell.now c.args.self.now c.self.invariant.sheets c.self.view_is c.requires c.in-None.ensures.value (c.if-eq-2.ensures.equal.0 refl) }

pub returns-in-None-2 : goal.returns-in-None-2
returns-in-None-2 c = record { pages = ap (λ n. n + 1) c.len-count.ensures.len ∙ pages-new c.self.inside.kind c.self.inside.sheets.entries c.args.number c.args.cell.now c.args.self.now c.self.invariant.sheets c.self.view_is c.requires c.in-None-2.ensures.value (λ na. let t = c.if-eq-2.ensures.equal.1 na in cc) }
