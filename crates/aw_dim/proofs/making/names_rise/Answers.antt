use Rattle.std.proofs.Common.{ℕ, true, ◌≡◌, ◌+◌, ◌-◌, ◌<◌, slice_index, arith, refl, inl, inr, rules}
use Rattle.std.proofs.lemmas.Bool.{cases_lt}
use Rattle.aw_dim.specs.inside.Index.{indexed_name, precedes}
use Rattle.aw_dim.proofs.making.names_rise.Goals as goal

pub returns : goal.returns
returns c = (λ _. record { next = λ at h. c.loop-at.invariant at (omega (arith, h)) }, λ _. refl)

pub loop-at-preserved : goal.loop-at-preserved
loop-at-preserved c = λ at h.
    let last : precedes (indexed_name c.args.entries.now c.args.places.now (slice_index c.args.by_name.now (c.loop-at.at - 1))) (indexed_name c.args.entries.now c.args.places.now (slice_index c.args.by_name.now c.loop-at.at)) ≡ true = search rules in
    elim (cases_lt (at + 1) c.loop-at.at) [
      | inl less ↦ c.loop-at.invariant at less
      | inr more ↦
          let this : at + 1 ≡ c.loop-at.at = omega (arith, h, more) in
          let before : at ≡ c.loop-at.at - 1 = omega (arith, this) in
          rw (this, before) last
    ]
