use Rattle.std.specs.Cmp.Lexicographic.{nat_list_cmp_total}
use Rattle.aw_var.proofs.callers.FiniteMaps.{IsMapBy-overwritten}
use Rattle.aw_var.proofs.laws.overwritten_is_map.Goals as goal

pub returns : goal.returns
returns c = λ cells patch h. IsMapBy-overwritten nat_list_cmp_total cells patch h
