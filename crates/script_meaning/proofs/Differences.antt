-- The difference of two bodies makes the newer one of the older.
use Rattle.std.specs.Cmp.Lexicographic.{nat_list_cmp_total}
use Rattle.std.specs.FinMap.{slice_cmp-IsAntisymmetric, nat_cmp-IsAntisymmetric}
use Rattle.aw_var.specs.Laws as maps
use Rattle.aw_var.proofs.callers.FiniteMaps.{difference-newer, find-difference, is_sorted-difference, difference-empty, IsMapBy-overwritten}
use Rattle.aw_body.specs.Laws.{DifferenceGivesNewer}
use Rattle.aw_body.proofs.callers.PatchLaws.{difference-gives-newer}

maps_newer : maps.DifferenceGivesNewer
maps_newer older newer f g = difference-newer nat_list_cmp_total (slice_cmp-IsAntisymmetric nat_cmp-IsAntisymmetric) older newer f g

maps_apart : maps.DifferenceTellsApart
maps_apart older newer f g = record {
  rising = is_sorted-difference nat_list_cmp_total (slice_cmp-IsAntisymmetric nat_cmp-IsAntisymmetric) older newer f;
  keys = λ key. find-difference nat_list_cmp_total (slice_cmp-IsAntisymmetric nat_cmp-IsAntisymmetric) key older newer f g;
  empty = difference-empty nat_list_cmp_total (slice_cmp-IsAntisymmetric nat_cmp-IsAntisymmetric) older newer f g;
}

pub gives_newer : DifferenceGivesNewer
gives_newer older newer older_is newer_is alike = difference-gives-newer maps_newer maps_apart older newer older_is newer_is alike

pub overwritten_map : maps.OverwrittenIsMap
overwritten_map cells patch is = IsMapBy-overwritten nat_list_cmp_total cells patch is
