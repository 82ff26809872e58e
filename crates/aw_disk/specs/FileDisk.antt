-- A file as a disk, which tells nothing.
use Rattle.std.specs.Prelude.{◌≡◌, ℕ, Bool, List, None, Some, is_ok, is_some}
use Rattle.aw_disk.specs.declared.file_disk.FileDisk.{FileDisk}

abbrev pub faults_of : FileDisk → ℕ
faults_of disk = disk.faults

-- whether it tells what the system said at the last failure
abbrev pub tells_why : FileDisk → Bool
tells_why disk = is_some disk.error

-- whether the file could be opened
abbrev pub is_open : FileDisk → Bool
is_open disk = is_ok disk.file

-- nothing told is no bytes told
pub tells_nothing : {bytes : List ℕ} → None ≡ Some bytes → ⊥
tells_nothing told = cc
