use Rattle.std.specs.Prelude.{ℕ, ◌≡◌, ◌≤◌, ◌<◌, vec_capacity, List, Option, IfSome}
use Rattle.std.specs.Option.{IsSomeAnd}
use Rattle.std.proofs.Common.{sym, subst}
use Rattle.aw_var.specs.CellMap.{Cells}
use Rattle.aw_body.specs.declared.patch.BodyPatch.TheVariants.{Cells as CellPatch}
use Rattle.aw_body.specs.BodyPatches.{applied}
use Rattle.mv_view.specs.Each.{each_from, only, object_in}
use Rattle.mv_view.specs.ViewState.{ObjectView, ViewState, object_of, AreCellsOf}
use Rattle.mv_view.specs.Rules as rule
use Rattle.mv_view.proofs.Paging.{IsListed-written, pages-written, ok-both}
use Rattle.mv_view.proofs.view.View.write.Goals as goal

-- what is written fits the object in the view's places
written-here : (view : ViewState) (state : ViewState) (object : ℕ) (cells those : Cells) → view ≡ state → those ≡ cells → IsSomeAnd (object_of state object) (λ found. AreCellsOf found.kind cells) → IsSomeAnd (object_of view object) (λ found. AreCellsOf found.kind those)
written-here view state object cells those is same there =
    subst (λ (list : Cells). IsSomeAnd (object_of view object) (λ found. AreCellsOf found.kind list)) (sym same)
    (subst (λ (v : ViewState). IsSomeAnd (object_of v object) (λ found. AreCellsOf found.kind cells)) (sym is) there)

pub invariant_of-self : goal.invariant_of-self
invariant_of-self c =
    IsListed-written c.write_at.result c.self.inside.objects c.write_at.new.objects c.self.inside.owned.items (vec_capacity c.self.inside.owned) c.args.object c.as_slice.result.now c.write_at.ensures.ok c.write_at.ensures.err c.write_at.ensures.valid c.self.invariant

pub returns-clause-room : goal.returns-clause-room
returns-clause-room c =
    let with_objects : List (Option ObjectView) → ViewState = λ those. record { who = c.self.inside.who; objects = those } in
    let there = written-here (with_objects c.self.inside.objects) c.args.self.now c.args.object c.args.cells.now c.as_slice.result.now c.self.view_is c.as_slice.ensures c.requires in
    ok-both (c.write_at.new.objects ≡ each_from 0 (only c.args.object (rule.with_cells c.as_slice.result.now)) c.self.inside.objects) (IfSome (object_in c.self.inside.objects c.args.object) (λ found. rule.pages_of (applied found.private (CellPatch c.as_slice.result.now)) ≤ 65536)) _ c.write_at.result
    (λ after room. subst (λ (objects : List (Option ObjectView)). rule.private_pages (with_objects objects) c.args.object ≤ 65536) (sym after)
    (pages-written (with_objects c.self.inside.objects) c.args.object c.as_slice.result.now (λ n. n ≤ 65536) (λ found. AreCellsOf found.kind c.as_slice.result.now) there room))
    c.write_at.ensures.ok c.write_at.ensures.room

pub returns-clause-full : goal.returns-clause-full
returns-clause-full c =
    let with_objects : List (Option ObjectView) → ViewState = λ those. record { who = c.self.inside.who; objects = those } in
    let there = written-here (with_objects c.self.inside.objects) c.args.self.now c.args.object c.args.cells.now c.as_slice.result.now c.self.view_is c.as_slice.ensures c.requires in
    λ fault. subst (λ (view : ViewState). 65536 < rule.private_pages (rule.written view c.args.object c.args.cells.now) c.args.object) c.self.view_is
    (subst (λ (cells : Cells). 65536 < rule.private_pages (rule.written (with_objects c.self.inside.objects) c.args.object cells) c.args.object) c.as_slice.ensures
    (pages-written (with_objects c.self.inside.objects) c.args.object c.as_slice.result.now (λ n. 65536 < n) (λ found. AreCellsOf found.kind c.as_slice.result.now) there (c.write_at.ensures.full fault)))
