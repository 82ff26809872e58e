use Rattle.std.specs.Cmp.Lexicographic.{nat_list_cmp_total}
use Rattle.std.specs.FinMap.{slice_cmp-IsAntisymmetric, nat_cmp-IsAntisymmetric}
use Rattle.aw_var.proofs.callers.FiniteMaps.{difference-newer}
use Rattle.aw_var.proofs.laws.difference_gives_newer.Goals as goal

pub returns : goal.returns
returns c = λ older newer f g. difference-newer nat_list_cmp_total (slice_cmp-IsAntisymmetric nat_cmp-IsAntisymmetric) older newer f g
