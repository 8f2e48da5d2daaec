-- The files that have machines.
use Rattle.std.specs.Prelude.{◌≤◌, ◌<◌, All, length}
use Rattle.kiss_file.specs.declared.file.KissFile.{KissFile}
use Rattle.kiss_file.specs.LawfulFile.{IsLawfulRow}

-- the counts are within the limits, and each row and the reset state fit the counts; the number of rows is not limited
pub record IsTable (F : KissFile) : Type 0 where
  pub some_input : 1 ≤ F.inputs
  pub inputs : F.inputs ≤ 32
  pub some_output : 1 ≤ F.outputs
  pub outputs : F.outputs ≤ 64
  pub states : length F.states ≤ 256
  pub rows : All (IsLawfulRow F.inputs F.outputs (length F.states)) F.rows
  pub reset : F.reset < length F.states
