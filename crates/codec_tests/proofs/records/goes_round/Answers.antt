use Rattle.std.specs.Prelude.{◌≡◌, [], ◌∷◌, IsTrue}
use Rattle.std.proofs.Common.{rules}
use Rattle.aw_body.specs.declared.change.Change.{Change}
use Rattle.aw_body.specs.Fitting.{fits}
use Rattle.codec_tests.proofs.Committed.{one_committed}
use Rattle.codec_tests.proofs.records.goes_round.Goals as goal

pub encode_commit-requires : goal.encode_commit-requires
encode_commit-requires c =
    let change : Change = record { object = c.args.object; patch = c.args.patch } in
    let is : c.push.new.self ≡ change ∷ [] = search rules in
    let fit : IsTrue (fits c.args.patch c.args.kind c.in-Some-empty.latest) = search rules in
    one_committed c.push.new.self change c.args.kind c.in-Some-empty.latest is fit
