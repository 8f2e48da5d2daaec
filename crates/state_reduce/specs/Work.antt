-- The machine that a command works on, with the classes that its header shows.
use Rattle.std.specs.Prelude.{◌≡◌, Bool, true, false, ℕ, IsNone, List, Option, None, Some}
use Rattle.state_reduce.specs.declared.work.WorkMachine.{WorkMachine}
use Rattle.kiss_file.specs.declared.file.KissFile.{KissFile}
use Rattle.state_reduce.specs.AlikeStates.{IsEquivalence}
use Rattle.state_reduce.specs.WorkMachine.{IsWorkMachine}

-- the classes are the partition of the file's states into alike states; without `--reduce` there are none
abbrev pub AreClasses : Bool → KissFile → Option (List ℕ) → Type 0
AreClasses true F (Some classes) = IsEquivalence F classes
AreClasses true F None = ⊥
AreClasses false F classes = IsNone classes

-- the names are those of the states of the work machine W; without `--reduce` these are the file's states
abbrev pub AreWorkNames : KissFile → KissFile → Option (List (List ℕ)) → Type 0
AreWorkNames F W None = W.states ≡ F.states
AreWorkNames F W (Some names) = names ≡ W.states

-- the machine is the work machine of the file, which stands beside it, with the class that each state of the file has
-- there
pub record IsWork (reduce : Bool) (F : KissFile) (work : WorkMachine) : Type 0 where
  pub file : work.file.now ≡ F
  pub class : ℕ → ℕ
  pub machine : IsWorkMachine reduce F work.machine class
  pub classes : AreClasses reduce F work.classes
  pub names : AreWorkNames F work.machine work.names

-- W is the machine that a command works on: the machine of the file, or with `--reduce` the machine of the classes
-- of alike states
abbrev pub IsWorkOf : Bool → KissFile → KissFile → Type 0
IsWorkOf reduce F W = (class : ℕ → ℕ) × IsWorkMachine reduce F W class

-- the machine that a command works on has a property
abbrev pub OnWork : Bool → KissFile → (KissFile → Type 0) → Type 0
OnWork reduce F P = (W : KissFile) × IsWorkOf reduce F W × P W
