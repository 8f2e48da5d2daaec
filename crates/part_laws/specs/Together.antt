-- Machines stepped together: by the names of signals, each reads the symbol and what the others give. No order of
-- evaluation is in it, so machines may read each other.
use Rattle.std.specs.Prelude.{◌≡◌, ℕ, All, Bool, List, [], ◌∷◌, map, unwrap_or}
use Rattle.kiss_file.specs.declared.file.KissFile.{KissFile}
use Rattle.kiss_file.specs.Machine.{next, out}

-- a machine at one of its states
pub record MachineAt : Type 0 where
  pub machine : KissFile
  pub state : ℕ

-- the machine at its reset state
abbrev pub at_reset : KissFile → MachineAt
at_reset M = record { machine = M; state = M.reset }

-- the symbol that a bit for every name spells on the inputs of a machine
abbrev pub symbol_read : (List ℕ → Bool) → KissFile → List Bool
symbol_read reading M = map reading (unwrap_or M.input_names [])

-- the outputs of the machine have the bits that it gives at its state, at the symbol that it reads
abbrev pub ReadsOutputs : (List ℕ → Bool) → MachineAt → Type 0
ReadsOutputs reading at =
    map reading (unwrap_or at.machine.output_names []) ≡ out at.machine at.state (symbol_read reading at.machine)

-- A reading gives a bit to every name: the inputs have the bits of the symbol, and the outputs of each machine those
-- that this machine gives.
pub record IsReading (inputs : List (List ℕ)) (places : List MachineAt) (x : List Bool) (reading : List ℕ → Bool) : Type 0 where
  pub symbol : map reading inputs ≡ x
  pub outputs : All (ReadsOutputs reading) places

-- where a machine goes by a reading
abbrev pub goes_by : (List ℕ → Bool) → MachineAt → MachineAt
goes_by reading at = record at { state = next at.machine at.state (symbol_read reading at.machine) }

-- by the reading, the machine Z of the outputs gives the answer, and the others go to these states
pub record GoesBy (Z : KissFile) (places : List MachineAt) (reading : List ℕ → Bool) (answer : List Bool) (nexts : List MachineAt) : Type 0 where
  pub gives : out Z Z.reset (symbol_read reading Z) ≡ answer
  pub goes : map (goes_by reading) places ≡ nexts

-- at the symbol there is a reading, and by every reading Z gives the answer and the others go to these states
pub record StepTogether (inputs : List (List ℕ)) (Z : KissFile) (places : List MachineAt) (x answer : List Bool) (nexts : List MachineAt) : Type 0 where
  pub some : (reading : List ℕ → Bool) × IsReading inputs places x reading × GoesBy Z places reading answer nexts
  pub every : (reading : List ℕ → Bool) → IsReading inputs places x reading → GoesBy Z places reading answer nexts

-- from these states the machines together answer the word, and come to the last states
abbrev pub AnswerTogether : List (List ℕ) → KissFile → List MachineAt → List (List Bool) → List (List Bool) → List MachineAt → Type 0
AnswerTogether inputs Z places [] answers lasts = (answers ≡ []) × (lasts ≡ places)
AnswerTogether inputs Z places (x ∷ word) answers lasts =
    (answer : List Bool) × (nexts : List MachineAt) × (more : List (List Bool))
    × (answers ≡ answer ∷ more) × StepTogether inputs Z places x answer nexts × AnswerTogether inputs Z nexts word more lasts
