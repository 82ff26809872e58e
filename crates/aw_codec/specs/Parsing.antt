-- Reading a format from left to right, as the functions of this crate do.
use Rattle.std.specs.Prelude.{ℕ, ◌≡◌, ◌+◌, ◌&&◌, List, length, take, drop, Result, Ok, Err, nat_le, nat_lt, if◌then◌else◌}
use Rattle.aw_codec.specs.declared.record.BadRecord.{BadRecord}
use Rattle.aw_codec.specs.declared.record.BadRecord.TheVariants.{At, NoMemory}
use Rattle.aw_codec.specs.Formats.{Format, ended, field}

-- from an offset on: the value and the offset behind it, or the offset of the first fault
abbrev pub reading : {A : Type 0} → Format A → List ℕ → ℕ → Result (A × ℕ) ℕ
reading (ended v) bytes at = Ok (v, at)
reading (field width test behind) bytes at =
    if nat_le (at + width) (length bytes) && test (take width (drop at bytes))
    then reading (behind (take width (drop at bytes))) bytes (at + width)
    else Err at

-- what is read behind what was read
abbrev pub onward : {A B : Type 0} → Result (A × ℕ) ℕ → (A → ℕ → Result B ℕ) → Result B ℕ
onward (Ok x) next = next x.0 x.1
onward (Err k) next = Err k

-- all of the bytes: nothing may stand behind the value
abbrev pub whole : {A : Type 0} → Format A → List ℕ → Result A ℕ
whole format bytes = onward (reading format bytes 0) (λ v end. if nat_lt end (length bytes) then Err end else Ok v)

-- what a function answered is what reading gives, unless memory ran out
abbrev pub Fails : {Y : Type 0} → BadRecord → Result Y ℕ → Type 0
Fails (At k) given = given ≡ Err k
Fails NoMemory given = Unit {0}

abbrev pub Gives : {X Y : Type 0} → (X → Y) → Result X BadRecord → Result Y ℕ → Type 0
Gives view (Ok x) given = given ≡ Ok (view x)
Gives view (Err e) given = Fails e given
