use Rattle.std.proofs.Common.{◌≡◌, max, ◌∙◌, IfOk}
use Rattle.rayon.specs.Lists.{chunks_of}
use Rattle.rayon.proofs.ListFacts.{IfOk-then}
use Rattle.rayon.proofs.ToStd.{slice-AllZip}
use Rattle.agg_run.specs.inside.Sharing.{AreSumsOf}
use Rattle.agg_run.proofs.sharing.sums_of_pieces.Goals as goal

pub returns : goal.returns
returns g c =
    let shown : chunks_of (max c.par_chunks.result.size 1) c.par_chunks.result.slice.now ≡ chunks_of 4096 c.args.cells.now = λ i. chunks_of (max (c.par_chunks.ensures.size i) 1) (c.par_chunks.ensures.slice i) in
    IfOk-then c.collect.result _ _ c.collect.ensures (λ v h.
    let chain = rw (c.map.ensures.base, c.map.ensures.f) at h.1 in
    rw h.2 (slice-AllZip chain.0 (chunks_of 4096 c.args.cells.now) (chain.1 ∙ shown) (λ piece sums. IfOk sums (λ of. AreSumsOf c.args.operator piece of.entries)) h.0 chain.2))
