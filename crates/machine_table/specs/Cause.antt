-- The reasons why a file has no machine.
use Rattle.std.specs.Prelude.{◌≡◌, ⊤}
use Rattle.kiss_file.specs.declared.fill.Fill.{Fill}
use Rattle.kiss_file.specs.declared.fill.Fill.TheVariants.{Refuse}
use Rattle.kiss_file.specs.declared.file.KissFile.{KissFile}
use Rattle.kiss_file.specs.Machine.{Conflicting}
use Rattle.machine_table.specs.declared.builder.BuildFail.{BuildFail}
use Rattle.machine_table.specs.declared.builder.BuildFail.TheVariants.{Conflict, Unspecified, NoMemory}
use Rattle.machine_table.specs.Conflict.{IsFirstConflict}
use Rattle.machine_table.specs.OpenEntries.{IsFirstOpen}

-- the refusal names the first conflict, or memory ran out
abbrev pub IsConflictOf : KissFile → BuildFail → Type 0
IsConflictOf F (Conflict row_a row_b) = IsFirstConflict F row_a row_b
IsConflictOf F (Unspecified state symbol part) = ⊥
IsConflictOf F NoMemory = ⊤

-- no two rows contradict one another, open entries are refused, and the entry is the first open one
pub record IsRefusedAt (F : KissFile) (fill : Fill) (open_first : Type 0) : Type 0 where
  pub refused : fill ≡ Refuse
  pub no_conflict : Conflicting F → ⊥
  pub entry : open_first

-- the refusal has its cause
abbrev pub Caused : KissFile → Fill → BuildFail → Type 0
Caused F fill (Conflict row_a row_b) = IsFirstConflict F row_a row_b
Caused F fill (Unspecified state symbol part) = IsRefusedAt F fill (IsFirstOpen F state symbol part)
Caused F fill NoMemory = ⊤
