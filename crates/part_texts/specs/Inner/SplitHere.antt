-- What is known of the split of a job once it is there.
use Rattle.std.specs.Prelude.{◌≡◌, All, length}
use Rattle.dependence.specs.Reads.{AreReads}
use Rattle.kiss_file.specs.declared.file.KissFile.{KissFile}
use Rattle.realise.specs.CodeNetwork.{AreEnough}
use Rattle.realise.specs.Names.{AreNames}
use Rattle.split_texts.specs.SplitText.{AreCodes}
use Rattle.state_codes.specs.declared.Codes.{Codes}
use Rattle.state_codes.specs.declared.split.Split.{Split}
use Rattle.state_codes.specs.Split.{IsPart}
use Rattle.part_texts.specs.declared.split_machine.SplitMachine.{SplitMachine}

-- the parts of the machine W have these codes, read sets and names for the file F
pub record IsSplitHere (F W : KissFile) (made : SplitMachine) : Type 0 where
  pub lawful : All (IsPart (length W.states)) made.split.parts
  pub coded : AreCodes (length W.states) made.split.parts made.codes
  pub reads : AreReads W made.split.parts made.codes made.reads
  pub enough : AreEnough W made.codes.bits made.codes.words made.reads
  pub own : AreNames F made.codes.bits made.names

-- the same of a split with its codes
pub record IsReadSplit (F W : KissFile) (split : Split) (codes : Codes) (made : SplitMachine) : Type 0 where
  pub same_split : made.split ≡ split
  pub same_codes : made.codes ≡ codes
  pub here : IsSplitHere F W made
