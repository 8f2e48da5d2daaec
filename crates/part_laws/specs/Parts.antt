-- The machines of a split, stepped together, answer as the machine that was split.
use Rattle.std.specs.Prelude.{◌≡◌, ℕ, All, Bool, Contains, List, Some, length, map, slice_index}
use Rattle.std.specs.List.{AllZip}
use Rattle.dependence.specs.declared.sets.Reads.{Reads}
use Rattle.kiss_file.specs.declared.file.KissFile.{KissFile}
use Rattle.kiss_file.specs.LawfulFile.{IsLawful}
use Rattle.kiss_file.specs.Machine.{Conflicting, answers}
use Rattle.net_core.specs.declared.SignalNames.{SignalNames}
use Rattle.part_machines.specs.PartMachine.{IsPartOf}
use Rattle.part_machines.specs.Which.{own_bits, partition_of}
use Rattle.part_texts.specs.SplitMachine.{IsSplitMachine}
use Rattle.shift_real.specs.Words.{next_along}
use Rattle.state_codes.specs.declared.Codes.{Codes}
use Rattle.state_codes.specs.declared.split.Kind.{Kind}
use Rattle.state_codes.specs.declared.split.Part.{Part}
use Rattle.state_codes.specs.declared.which.Which.TheVariants.{Part as Numbered, Outputs}
use Rattle.part_laws.specs.Together.{AnswerTogether, MachineAt, at_reset}

-- a lawful file F without conflict, and the split that a job makes of it: the machine W that the job works on, its
-- parts, their codes, what the gates read, and the names of signals
pub record IsTakenApart (kind : Kind) (text : List ℕ) (reduce : Bool) (F W : KissFile) (parts : List Part) (code : Codes) (sets : Reads) (names : SignalNames) : Type 0 where
  pub lawful : IsLawful F
  pub no_conflict : Conflicting F → ⊥
  pub split : IsSplitMachine kind text reduce F W parts code sets names

-- there is a machine for each part that has bits, and one for the outputs
pub record AreMachinesOf (W : KissFile) (parts : List Part) (code : Codes) (sets : Reads) (names : SignalNames) (numbers : List ℕ) (machines : List KissFile) (Z : KissFile) : Type 0 where
  pub each : AllZip (λ j M. IsPartOf W parts code sets names (Numbered j) M) numbers machines
  pub all : (j c : ℕ) → Contains (own_bits code (Numbered j)) c → Contains numbers j
  pub outputs : IsPartOf W parts code sets names Outputs Z

-- the machine is that of part j, and is at the block of state s
pub record IsAtBlockOf (W : KissFile) (parts : List Part) (code : Codes) (sets : Reads) (names : SignalNames) (s j : ℕ) (place : MachineAt) : Type 0 where
  pub is : IsPartOf W parts code sets names (Numbered j) place.machine
  pub block : (p : List ℕ) → partition_of W parts (Numbered j) ≡ Some p → place.state ≡ slice_index p s

-- From their reset states, the machines together answer each word as F does from its own. After the word, each is at the
-- block of W's state.
abbrev pub AnswerAs : KissFile → KissFile → List Part → Codes → Reads → SignalNames → List ℕ → List KissFile → KissFile → Type 0
AnswerAs F W parts code sets names numbers machines Z =
    (word : List (List Bool)) → All (λ x. length x ≡ F.inputs) word
    → (lasts : List MachineAt) × AnswerTogether names.inputs Z (map at_reset machines) word (answers F F.reset word) lasts
    × AllZip (IsAtBlockOf W parts code sets names (next_along W W.reset word)) numbers lasts

-- the machines of a split answer together as the machine that was split
abbrev pub MachinesAnswer : Type 0
MachinesAnswer =
    (kind : Kind) (text : List ℕ) (reduce : Bool) (F W : KissFile) (parts : List Part) (code : Codes) (sets : Reads) (names : SignalNames) (numbers : List ℕ) (machines : List KissFile) (Z : KissFile)
    → IsTakenApart kind text reduce F W parts code sets names → AreMachinesOf W parts code sets names numbers machines Z
    → AnswerAs F W parts code sets names numbers machines Z
