-- What follows from the definitions alone.
pub mod Greatest
pub mod Chosen
use Rattle.std.specs.Prelude.{◌≡◌, List}
use Rattle.kiss_file.specs.declared.file.KissFile.{KissFile}
use Rattle.state_codes.specs.declared.split.Part.{Part}
use Rattle.serial_split.specs.Choice.{IsCascadeChoice, IsSerialChoice}
use Rattle.serial_split.specs.Kind.{IsCascade, IsSerial}

-- there is at most one list of parts that is chosen for a serial split
abbrev pub SerialChoiceIsOne : Type 0
SerialChoiceIsOne =
    (F : KissFile) (one other : List Part) → IsSerial F one → IsSerial F other → IsSerialChoice F one → IsSerialChoice F other → one ≡ other

-- and at most one for a cascade
abbrev pub CascadeChoiceIsOne : Type 0
CascadeChoiceIsOne =
    (F : KissFile) (one other : List Part) → IsCascade F one → IsCascade F other → IsCascadeChoice F one → IsCascadeChoice F other → one ≡ other
