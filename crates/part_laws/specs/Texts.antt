-- The texts of the machines of a split: what they say answers together as the machine that was split, and there is one
-- text of each part.
use Rattle.std.specs.Prelude.{◌≡◌, ℕ, ◌≤◌, Bool, Contains, List, length}
use Rattle.std.specs.List.{AllZip}
use Rattle.dependence.specs.declared.sets.Reads.{Reads}
use Rattle.kiss2.specs.Kiss.{Kiss}
use Rattle.kiss_file.specs.declared.file.KissFile.{KissFile}
use Rattle.kiss_file.specs.LawfulFile.{IsLawful}
use Rattle.kiss_file.specs.Machine.{Conflicting, Specified}
use Rattle.net_core.specs.declared.SignalNames.{SignalNames}
use Rattle.part_machines.specs.Which.{own_bits}
use Rattle.part_texts.specs.PartText.{IsPartText}
use Rattle.part_texts.specs.SplitMachine.{IsSplitMachine}
use Rattle.state_codes.specs.declared.Codes.{Codes}
use Rattle.state_codes.specs.declared.split.Kind.{Kind}
use Rattle.state_codes.specs.declared.split.Part.{Part}
use Rattle.state_codes.specs.declared.which.Which.{Which}
use Rattle.state_codes.specs.declared.which.Which.TheVariants.{Part as Numbered, Outputs}
use Rattle.part_laws.specs.Parts.{AnswerAs}

-- ---- one text
-- the text is that of the part, and has no more rows than are read
abbrev pub IsShortText : Kind → List ℕ → Which → Bool → KissFile → List ℕ → Type 0
IsShortText kind text which reduce F written = (is : IsPartText kind text which reduce F written) × (length is.P.rows ≤ 65536)

-- the text says the machine, which is lawful; nothing is open in it, and it has no conflict
pub record IsReadWhole (written : List ℕ) (P : KissFile) : Type 0 where
  pub said : Kiss written P
  pub lawful : IsLawful P
  pub specified : Specified P
  pub no_conflict : Conflicting P → ⊥

-- the text of a part is read back as the machine of the part
abbrev pub PartIsRead : Type 0
PartIsRead =
    (kind : Kind) (text : List ℕ) (which : Which) (reduce : Bool) (F : KissFile) (written : List ℕ)
    → (is : IsPartText kind text which reduce F written) → length is.P.rows ≤ 65536 → IsReadWhole written is.P

-- where nothing is open in the file, there is one text of a part
abbrev pub PartIsOne : Type 0
PartIsOne =
    (kind : Kind) (text : List ℕ) (which : Which) (reduce : Bool) (F : KissFile) (written other : List ℕ) → Specified F
    → IsPartText kind text which reduce F written → IsPartText kind text which reduce F other → written ≡ other

-- ---- all texts of a job
-- part j of the job's split has bits
pub record HasBits (kind : Kind) (text : List ℕ) (reduce : Bool) (F : KissFile) (j : ℕ) : Type 0 where
  pub W : KissFile
  pub parts : List Part
  pub code : Codes
  pub sets : Reads
  pub names : SignalNames
  pub of_job : IsSplitMachine kind text reduce F W parts code sets names
  pub bit : ℕ
  pub own : Contains (own_bits code (Numbered j)) bit

-- texts of one job, none of which has more rows than are read: one for each part that has bits, and one for the outputs
pub record AreTextsOf (kind : Kind) (text : List ℕ) (reduce : Bool) (F : KissFile) (numbers : List ℕ) (texts : List (List ℕ)) (outputs : List ℕ) : Type 0 where
  pub each : AllZip (λ j written. IsShortText kind text (Numbered j) reduce F written) numbers texts
  pub all : (j : ℕ) → HasBits kind text reduce F j → Contains numbers j
  pub last : IsShortText kind text Outputs reduce F outputs

-- The texts say machines, which answer together as the machine of the file F. After each word, the machine of a part is
-- at the block of the state of W, the machine that the job works on.
pub record SayMachines (kind : Kind) (text : List ℕ) (reduce : Bool) (F : KissFile) (numbers : List ℕ) (texts : List (List ℕ)) (outputs : List ℕ) : Type 0 where
  pub W : KissFile
  pub parts : List Part
  pub code : Codes
  pub sets : Reads
  pub names : SignalNames
  pub of_job : IsSplitMachine kind text reduce F W parts code sets names
  pub machines : List KissFile
  pub each : AllZip Kiss texts machines
  pub Z : KissFile
  pub last : Kiss outputs Z
  pub answer : AnswerAs F W parts code sets names numbers machines Z

-- the texts of one job say machines that answer together as the machine of the file
abbrev pub PartsAnswer : Type 0
PartsAnswer =
    (kind : Kind) (text : List ℕ) (reduce : Bool) (F : KissFile) (numbers : List ℕ) (texts : List (List ℕ)) (outputs : List ℕ) → IsLawful F → (Conflicting F → ⊥)
    → AreTextsOf kind text reduce F numbers texts outputs → SayMachines kind text reduce F numbers texts outputs
