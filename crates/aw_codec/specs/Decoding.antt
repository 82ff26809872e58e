-- What the decoder answers.
use Rattle.std.specs.Prelude.{◌≡◌, ◌⊎◌, Result, Err}
use Rattle.aw_codec.specs.declared.record.Decoded.{Decoded}
use Rattle.aw_codec.specs.declared.record.BadRecord.{BadRecord}
use Rattle.aw_codec.specs.declared.record.BadRecord.TheVariants.{NoMemory}

-- this answer, or want of memory
abbrev pub IsOrNoMemory : Result Decoded BadRecord → Result Decoded BadRecord → Type 0
IsOrNoMemory result answer = (result ≡ answer) ⊎ (result ≡ Err NoMemory)
