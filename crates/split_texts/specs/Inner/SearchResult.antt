-- The result of the search for a split of a kind.
use Rattle.std.specs.Prelude.{◌↔◌, ℕ, IfSome, IsNone, List, Option}
use Rattle.kiss_file.specs.declared.file.KissFile.{KissFile}
use Rattle.state_codes.specs.declared.split.Kind.{Kind}
use Rattle.state_codes.specs.declared.split.Split.{Split}
use Rattle.split_texts.specs.Kinds.{row_of}
use Rattle.split_texts.specs.Splits.{IsPlanned}

-- a split of this kind, or none exactly where the machine has none
pub record IsFound (kind : Kind) (text : List ℕ) (W : KissFile) (found : Option Split) : Type 0 where
  pub none : IsNone found ↔ (row_of kind).none W
  pub some : IfSome found (IsPlanned kind text W)
