-- What was done so far.
use Rattle.std.specs.Prelude.{◌++◌, List, Result}
use Rattle.dml_loop.specs.Loops.{ok_map}

-- an answer behind what was answered before
abbrev pub behind : {A E : Type 0} → List A → Result (List A) E → Result (List A) E
behind done answer = ok_map (λ rest. done ++ rest) answer
