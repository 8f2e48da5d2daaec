-- The headline: what holds of the text of the machine of a part.
use Rattle.std.specs.Prelude.{◌≡◌, ◌≤◌, ℕ, Bool, List, length}
use Rattle.dependence.specs.declared.sets.Reads.{Reads}
use Rattle.kiss2.specs.KissText.{kiss_text}
use Rattle.kiss_file.specs.declared.file.KissFile.{KissFile}
use Rattle.kiss_file.specs.LawfulFile.{IsLawful}
use Rattle.net_core.specs.declared.SignalNames.{SignalNames}
use Rattle.part_machines.specs.PartMachine.{IsPartOf}
use Rattle.state_codes.specs.declared.Codes.{Codes}
use Rattle.state_codes.specs.declared.split.Kind.{Kind}
use Rattle.state_codes.specs.declared.split.Part.{Part}
use Rattle.state_codes.specs.declared.which.Which.{Which}
use Rattle.part_texts.specs.SplitMachine.{IsSplitMachine}

-- The text is that of P, the machine of the part of the job's split. P is lawful unless it has more rows than a text
-- may have, so that the text is read back as P.
pub record IsPartText (kind : Kind) (text : List ℕ) (which : Which) (reduce : Bool) (F : KissFile) (written : List ℕ) : Type 0 where
  pub W : KissFile
  pub parts : List Part
  pub codes : Codes
  pub sets : Reads
  pub names : SignalNames
  pub P : KissFile
  pub of_job : IsSplitMachine kind text reduce F W parts codes sets names
  pub part : IsPartOf W parts codes sets names which P
  pub lawful : length P.rows ≤ 65536 → IsLawful P
  pub is_text : written ≡ kiss_text P
