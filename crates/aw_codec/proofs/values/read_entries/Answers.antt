use Rattle.std.specs.Prelude.{ℕ, ◌≡◌, ◌<◌, ◌+◌, ◌-◌, ◌++◌, ◌∷◌, [], Bool, true, List, length, slice_set, Ok}
use Rattle.std.specs.Global.{Vec}
use Rattle.std.specs.HashSet.{contains}
use Rattle.std.proofs.Common.{ap, subst, sym, ◌∙◌}
use Rattle.std.proofs.lemmas.List.{length-set}
use Rattle.std.proofs.lemmas.Result.{err_from_is_err_and}
use Rattle.aw_dim.specs.DimensionState.{Entry}
use Rattle.aw_codec.specs.Formats.{many}
use Rattle.aw_codec.specs.Parsing.{reading, Fails}
use Rattle.aw_codec.specs.RecordFormat.{value}
use Rattle.aw_codec.specs.inside.Seen.{AreMarked, AreHeld, has_slot, same_bytes}
use Rattle.aw_codec.proofs.Held.{value_marked}
use Rattle.aw_codec.proofs.Readings.{next_part, no_part, all_parts}
use Rattle.aw_codec.proofs.values.read_entries.Goals as goal

pub returns-in_err-slot : goal.returns-in_err-slot
returns-in_err-slot c =
    let failed = err_from_is_err_and c.from_residual-in_err-slot.result c.from_residual-in_err-slot.ensures.1 in
    let total = reading (many (value c.args.next) c.args.count []) c.args.bytes.now c.args.at in
    rw (failed.1, failed.2) (no_part (value c.args.next) c.args.count c.loop.counter c.loop.read.entries.items c.args.bytes.now c.loop.behind total c.loop.invariant.read c.in_err-slot.field-0.0 c.loop-test.true
    (subst (λ next. Fails c.in_err-slot.field-0.0 (reading (value next c.loop.read.entries.items) c.args.bytes.now c.loop.behind)) c.loop.invariant.all c.in_err-slot.ensures.read))

pub loop-preserved : goal.loop-preserved
loop-preserved c =
    let before = c.loop.read.entries.items in
    let entry : Entry = (c.in_ok-slot.slot, c.in_ok-slot.name) in
    let total = reading (many (value c.args.next) c.args.count []) c.args.bytes.now c.args.at in
    let entries : c.push.new.self.items ≡ before ++ entry ∷ [] = c.in_ok-push.ensures.items ∙ ap (λ (kept : Vec Entry). kept.items ++ entry ∷ []) c.in_ok-slot.ensures.entries in
    let kept : c.value_at.new.self.marks.items ≡ c.loop.read.marks.items = ap (λ (marks : Vec Bool). marks.items) c.in_ok-slot.ensures.marks in
    let read = subst (λ next. reading (value next before) c.args.bytes.now c.loop.behind ≡ Ok (entry, c.in_ok-slot.after)) c.loop.invariant.all c.in_ok-slot.ensures.read in
    record {
      read = subst (λ (all : List Entry). reading (many (value c.args.next) (c.args.count - (c.loop.counter + 1)) all) c.args.bytes.now c.in_ok-slot.after ≡ total) (sym entries)
          (next_part (value c.args.next) c.args.count c.loop.counter before c.args.bytes.now c.loop.behind total c.loop.invariant.read entry c.in_ok-slot.after c.loop-test.true read);
      all = length-set c.value_at.new.self.marks.items c.from.result true ∙ ap (λ (marks : List Bool). length marks) kept ∙ c.loop.invariant.all;
      marked =
          subst (λ (all : List Entry). AreMarked (has_slot all) (slice_set c.value_at.new.self.marks.items c.from.result true)) (sym entries)
          (subst (λ (at : ℕ). AreMarked (has_slot (before ++ entry ∷ [])) (slice_set c.value_at.new.self.marks.items at true)) (sym c.from.ensures)
          (value_marked before c.value_at.new.self.marks.items entry (subst (λ (marks : List Bool). c.in_ok-slot.slot < length marks) (sym kept) c.in_ok-slot.ensures.below)
          (subst (λ (marks : List Bool). AreMarked (has_slot before) marks) (sym kept) c.loop.invariant.marked)));
      held = subst (λ (all : List Entry). AreHeld all (contains same_bytes c.value_at.new.self.names)) (sym entries) c.in_ok-slot.ensures.held;
    }

pub returns : goal.returns
returns c =
    let total = reading (many (value c.args.next) c.args.count []) c.args.bytes.now c.args.at in
    rw c.from_vec.ensures (all_parts (value c.args.next) c.args.count c.loop.counter c.loop.read.entries.items c.args.bytes.now c.loop.behind total c.loop.invariant.read c.loop-test.false)
