-- What is done to objects that a list names.
use Rattle.mv_view.specs.ViewState.{ObjectView}
use Rattle.mv_view.specs.Rules.{staging, reverting, owning, releasing, after_commit}
use Rattle.mv_view.specs.declared.kept.Step.{Step}
use Rattle.mv_view.specs.declared.kept.Step.TheVariants.{Update, Revert, Own, Release, Commit}

abbrev pub stepped : Step → ObjectView → ObjectView
stepped Update object = staging object
stepped Revert object = reverting object
stepped Own object = owning object
stepped Release object = releasing object
stepped Commit object = after_commit object
