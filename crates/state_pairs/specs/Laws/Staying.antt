-- A machine never leaves its states, whichever list of bits it reads.
use Rattle.std.proofs.Common.{◌≡◌, ℕ, ◌<◌, Bool, List, length, subst}
use Rattle.cubes.specs.Symbol.{number_of, symbol_of}
use Rattle.cubes.specs.Laws.Numbers.{symbol_of-number_of}
use Rattle.kiss_file.specs.declared.file.KissFile.{KissFile}
use Rattle.kiss_file.specs.Machine.{Conflicting, next}
use Rattle.state_pairs.specs.NextStates.{NeverLeaves}
use Rattle.state_pairs.specs.Table.{IsTable}
use Rattle.state_pairs.specs.Laws.NextLabels.{next_in_states}

pub never_leaves : (F : KissFile) → IsTable F → (Conflicting F → ⊥) → NeverLeaves F
never_leaves F table no_conflict s x within size =
    let written : symbol_of F.inputs (number_of x) ≡ x = subst (λ (k : ℕ). symbol_of k (number_of x) ≡ x) size (symbol_of-number_of x) in
    subst (λ (y : List Bool). next F s y < length F.states) written (next_in_states F table no_conflict s (number_of x) within)
