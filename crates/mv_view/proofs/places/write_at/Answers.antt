use Rattle.std.specs.Prelude.{◌≡◌, ◌≤◌, Option, Some, IfSome, slice_set}
use Rattle.std.proofs.Common.{◌∙◌, ap, sym, subst, arith}
use Rattle.aw_body.specs.declared.patch.BodyPatch.TheVariants.{Cells as CellPatch}
use Rattle.aw_body.specs.Bodies.{IsBody}
use Rattle.aw_body.specs.BodyPatches.{applied}
use Rattle.mv_view.specs.ViewState.{ObjectView}
use Rattle.mv_view.specs.Rules as rule
use Rattle.mv_view.proofs.WrittenPlaces.{written-there, past-all, set-same, missing-past}
use Rattle.mv_view.proofs.Paging.{ok-map, err-map}
use Rattle.mv_view.proofs.places.write_at.Goals as goal

pub returns-in-Some-clause-ok : goal.returns-in-Some-clause-ok
returns-in-Some-clause-ok c =
    ok-map (c.write.new.self ≡ rule.with_cells c.args.cells.now c.in-Some.kept) _ c.write.result (λ after. written-there (rule.with_cells c.args.cells.now) c.args.objects.now c.from-at.result c.args.object c.at_mut.result.now c.in-Some.kept c.write.new.self c.from-at.ensures c.at_mut.ensures.value c.in-Some.is after) c.write.ensures.ok

pub returns-in-Some-clause-err : goal.returns-in-Some-clause-err
returns-in-Some-clause-err c =
    err-map (c.write.new.self ≡ c.in-Some.kept) _ c.write.result
    (λ same. ap (λ (one : ObjectView). slice_set c.args.objects.now c.from-at.result (Some one)) same
    ∙ ap (λ (place : Option ObjectView). slice_set c.args.objects.now c.from-at.result place) (sym c.in-Some.is) ∙ set-same c.args.objects.now c.from-at.result c.at_mut.result.now c.at_mut.ensures.value)
    c.write.ensures.err

pub returns-else-at-len-clause-ok : goal.returns-else-at-len-clause-ok
returns-else-at-len-clause-ok c = past-all (rule.with_cells c.args.cells.now) c.args.objects.now c.from-at.result c.args.object c.from-at.ensures (let size = c.len.ensures in let past = c.if-at-len.false in omega arith)

pub returns-else-at-len-clause-room : goal.returns-else-at-len-clause-room
returns-else-at-len-clause-room c =
    subst (λ (found : Option ObjectView). IfSome found (λ one. rule.pages_of (applied one.private (CellPatch c.args.cells.now)) ≤ 65536)) (sym (missing-past c.args.objects.now c.from-at.result c.args.object c.from-at.ensures (let size = c.len.ensures in let past = c.if-at-len.false in omega arith))) tt

pub returns-else-at-len-clause-valid : goal.returns-else-at-len-clause-valid
returns-else-at-len-clause-valid c =
    subst (λ (found : Option ObjectView). IfSome found (λ one. IsBody (applied one.private (CellPatch c.args.cells.now)))) (sym (missing-past c.args.objects.now c.from-at.result c.args.object c.from-at.ensures (let size = c.len.ensures in let past = c.if-at-len.false in omega arith))) tt
