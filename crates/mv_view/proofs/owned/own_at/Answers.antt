use Rattle.std.specs.Prelude.{vec_capacity}
use Rattle.std.proofs.Common.{◌∙◌, sym}
use Rattle.mv_view.proofs.Owning.{room-for, listed-free, listed-other}
use Rattle.mv_view.proofs.owned.own_at.Goals.{then-is_free, else-is_free}
use Rattle.mv_view.proofs.owned.own_at.Goals as goal

pub note-requires : goal.note-requires
note-requires c = room-for c.args.objects.now c.args.owned.now.items (vec_capacity c.args.owned.now) c.args.object c.requires (sym c.is_free.ensures ∙ c.if-is_free.true)

pub returns-clause-listed : goal.returns-clause-listed
returns-clause-listed c = elim c.if-is_free.branch [
  | then-is_free w ↦ rw (w.owned-is, c.step_at.ensures, w.note.ensures.items) (listed-free c.args.objects.now c.args.owned.now.items (vec_capacity c.args.owned.now) (vec_capacity w.note.new.owned) c.args.object c.requires w.note.ensures.room (sym c.is_free.ensures ∙ w.if-is_free.true))
  | else-is_free w ↦ rw (w.owned-is, c.step_at.ensures) (listed-other c.args.objects.now c.args.owned.now.items (vec_capacity c.args.owned.now) c.args.object c.requires (sym c.is_free.ensures ∙ w.if-is_free.false))
]
