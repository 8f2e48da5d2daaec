-- What follows from the definitions alone.
pub mod Once
pub mod Chosen
use Rattle.std.specs.Prelude.{◌≡◌, List}
use Rattle.kiss_file.specs.declared.file.KissFile.{KissFile}
use Rattle.state_codes.specs.declared.split.Part.{Part}
use Rattle.parallel_split.specs.Choice.{IsParallelChoice}
use Rattle.parallel_split.specs.Kind.{IsParallel}

-- there is at most one list of parts that is chosen
abbrev pub ChoiceIsOne : Type 0
ChoiceIsOne =
    (F : KissFile) (one other : List Part) → IsParallel F one → IsParallel F other → IsParallelChoice F one → IsParallelChoice F other → one ≡ other
