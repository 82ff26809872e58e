use Rattle.std.proofs.Common.{◌≡◌, ◌≤◌, ◌+◌, ◌*◌, ◌++◌, length, take}
use Rattle.arrayvec.specs.ArrayVec.{array_vec_len}
use Rattle.script_meaning.specs.Dump.{key_text}
use Rattle.script_disk.proofs.line.append_key.Given as goal

abbrev pub invariant-loop-at : goal.invariant-loop-at
invariant-loop-at l = record {
  within : l.at ≤ length l.slots;
  items : l.line.items ≡ l.initial.line.items ++ key_text (take l.at l.slots);
  len : array_vec_len l.line ≤ array_vec_len l.initial.line + 6 * l.at;
}
