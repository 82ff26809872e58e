use Rattle.std.specs.Cmp.Lexicographic.{nat_list_cmp_total}
use Rattle.std.specs.FinMap.{slice_cmp-IsAntisymmetric, nat_cmp-IsAntisymmetric}
use Rattle.aw_var.proofs.callers.FiniteMaps.{overwritten-composed}
use Rattle.aw_var.proofs.laws.composed_does_both.Goals as goal

pub returns : goal.returns
returns c = λ cells first second h rising. overwritten-composed nat_list_cmp_total (slice_cmp-IsAntisymmetric nat_cmp-IsAntisymmetric) cells first second h rising
