use Rattle.std.specs.Cmp.Lexicographic.{nat_list_cmp_total}
use Rattle.std.specs.FinMap.{slice_cmp-IsAntisymmetric, nat_cmp-IsAntisymmetric}
use Rattle.aw_var.proofs.callers.FiniteMaps.{find-difference, is_sorted-difference, difference-empty}
use Rattle.aw_var.proofs.laws.difference_tells_apart.Goals as goal

pub returns : goal.returns
returns c = λ older newer f g. record {
  rising = is_sorted-difference nat_list_cmp_total (slice_cmp-IsAntisymmetric nat_cmp-IsAntisymmetric) older newer f;
  keys = λ key. find-difference nat_list_cmp_total (slice_cmp-IsAntisymmetric nat_cmp-IsAntisymmetric) key older newer f g;
  empty = difference-empty nat_list_cmp_total (slice_cmp-IsAntisymmetric nat_cmp-IsAntisymmetric) older newer f g;
}
