use Rattle.std.proofs.Common.{◌∙◌, sym, Some}
use Rattle.std.specs.Option.{option_copied}
use Rattle.aw_var.specs.inside.Walks.{first_page}
use Rattle.aw_var.proofs.GoingOver.{left_begin, left_next, changes_fit, lesser_is}
use Rattle.aw_var.proofs.numbered.Numbered.patch_since.Goals as goal

pub pages-init : goal.pages-init
pages-init c = left_begin c.self.inside.kind c.older.inside.kind c.args.slots c.older.inside.sheets.entries c.self.inside.sheets.entries c.new-theirs.result c.new-ours.result c.new-patch.result.items c.args.older.now c.args.self.now c.new-theirs.ensures c.new-ours.ensures c.new-patch.ensures.items c.self.invariant.sheets c.older.invariant.sheets c.self.view_is c.older.view_is c.requires.kind c.requires.older_numbers c.requires.numbers

pub push_changes-requires-clause-fits : goal.push_changes-requires-clause-fits
push_changes-requires-clause-fits c = changes_fit c.args.self.now.kind c.args.slots c.pages.theirs c.pages.ours c.take_at-before.new.self c.take_at-now.new.self c.pages.patch.items c.args.older.now.cells c.args.self.now.cells c.in-Some.page (option_copied c.take_at-before.result) (option_copied c.take_at-now.result) c.pages.invariant
    (lesser_is (Some c.in-Some.page) c.page.result c.page-in-pages.result (first_page c.pages.ours) (first_page c.pages.theirs) (sym c.in-Some.is ∙ c.lesser.ensures) c.page.ensures c.page-in-pages.ensures)
    c.take_at-before.ensures c.take_at-now.ensures

pub pages-preserved : goal.pages-preserved
pages-preserved c = left_next c.args.self.now.kind c.args.slots c.pages.theirs c.pages.ours c.take_at-before.new.self c.take_at-now.new.self c.pages.patch.items c.push_changes.new.patch.items c.args.older.now.cells c.args.self.now.cells c.in-Some.page (option_copied c.take_at-before.result) (option_copied c.take_at-now.result) c.pages.invariant
    (lesser_is (Some c.in-Some.page) c.page.result c.page-in-pages.result (first_page c.pages.ours) (first_page c.pages.theirs) (sym c.in-Some.is ∙ c.lesser.ensures) c.page.ensures c.page-in-pages.ensures)
    c.take_at-before.ensures c.take_at-now.ensures c.in_ok-push_changes.ensures
