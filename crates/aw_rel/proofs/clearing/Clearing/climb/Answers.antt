use Rattle.std.proofs.Common.{◌∙◌, ◌<◌, false, length, sym, arith}
use Rattle.aw_rel.proofs.Filling.{read_at, kids_at, child_below, front_at, climb-waits, climb-more, climb-fewer}
use Rattle.aw_rel.proofs.clearing.Clearing.climb.Goals as goal

pub front-passed-requires-clause-below : goal.front-passed-requires-clause-below
front-passed-requires-clause-below c =
    let slot = c.in-Some.slot in
    let below = c.steps.invariant.below slot c.in-Some.is in
    let kids = kids_at c.args.children.now slot c.from-at.result c.index-children-at.result c.as_slice-below.result.now c.as_slice-below.ensures c.index-children-at.is c.from-at.ensures (omega (arith, below, c.requires.kin.size)) in
    λ place child at. child_below c.args.parents.now c.args.children.now c.steps.self.cleared.items c.as_slice.result.now slot place child c.as_slice-below.result.now c.requires.kin c.steps.invariant.clearing.room c.as_slice.ensures.value kids at

pub front-passed-requires-clause-passed : goal.front-passed-requires-clause-passed
front-passed-requires-clause-passed c =
    let slot = c.in-Some.slot in
    let below = c.steps.invariant.below slot c.in-Some.is in
    let kids = kids_at c.args.children.now slot c.from-at.result c.index-children-at.result c.as_slice-below.result.now c.as_slice-below.ensures c.index-children-at.is c.from-at.ensures (omega (arith, below, c.requires.kin.size)) in
    let count = read_at c.steps.self.passed.items slot c.from-at.result c.index-in-Some.result.now 0 c.index-in-Some.ensures c.from-at.ensures (omega (arith, below, c.steps.invariant.clearing.places)) in
    front_at c.args.parents.now c.args.children.now c.steps.self.cleared.items c.as_slice.result.now c.steps.self.passed.items c.steps.self.upward.items c.as_slice-below.result.now slot c.index-in-Some.result.now c.steps.invariant.clearing c.as_slice.ensures.value kids count

pub returns-then-passed-below : goal.returns-then-passed-below
returns-then-passed-below c =
    let slot = c.in-Some.slot in
    let below = c.steps.invariant.below slot c.in-Some.is in
    let kids = kids_at c.args.children.now slot c.from-at.result c.index-children-at.result c.as_slice-below.result.now c.as_slice-below.ensures c.index-children-at.is c.from-at.ensures (omega (arith, below, c.requires.kin.size)) in
    climb-waits c.args.parents.now c.args.children.now c.args.self.now.cleared.items c.steps.self.cleared.items c.as_slice.result.now c.steps.self.passed.items c.steps.self.upward.items c.as_slice-below.result.now c.args.from slot c.from-at.result c.front-passed.result c.steps.next
    c.requires.kin c.steps.invariant c.in-Some.is c.from-at.ensures c.as_slice.ensures.value kids c.front-passed.ensures.front c.front-passed.ensures.next c.if-passed-below.true

pub steps-smaller : goal.steps-smaller
steps-smaller c =
    let slot = c.in-Some.slot in
    let below = c.steps.invariant.below slot c.in-Some.is in
    let within : slot < length c.steps.self.cleared.items = omega (arith, below, c.steps.invariant.clearing.room) in
    climb-fewer c.steps.self.cleared.items slot c.from-at.result c.from-at.ensures within (sym (read_at c.steps.self.cleared.items slot c.from-at.result c.index.result.now false c.index.ensures c.from-at.ensures within) ∙ c.if-index.false)

pub steps-preserved : goal.steps-preserved
steps-preserved c =
    let slot = c.in-Some.slot in
    let below = c.steps.invariant.below slot c.in-Some.is in
    let within : slot < length c.steps.self.cleared.items = omega (arith, below, c.steps.invariant.clearing.room) in
    let kids = kids_at c.args.children.now slot c.from-at.result c.index-children-at.result c.as_slice-below.result.now c.as_slice-below.ensures c.index-children-at.is c.from-at.ensures (omega (arith, below, c.requires.kin.size)) in
    climb-more c.args.parents.now c.args.children.now c.args.self.now.cleared.items c.steps.self.cleared.items c.as_slice.result.now c.steps.self.passed.items c.steps.self.upward.items c.push.new.self.items c.as_slice-below.result.now c.args.from slot c.from-at.result c.front-passed.result c.steps.next
    c.requires.kin c.steps.invariant c.in-Some.is c.from-at.ensures (sym (read_at c.steps.self.cleared.items slot c.from-at.result c.index.result.now false c.index.ensures c.from-at.ensures within) ∙ c.if-index.false)
    c.as_slice.ensures.value kids c.front-passed.ensures.front c.if-passed-below.false c.in_ok-push.ensures.items
