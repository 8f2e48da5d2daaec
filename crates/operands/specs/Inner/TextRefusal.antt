-- The outcome of reading a loaded text. Private functions need it; no public contract cites it.
use Rattle.std.specs.Prelude.{◌≡◌, ◌⊎◌, ℕ, List, Some, Result, Ok, Err, map, slice_get}
use Rattle.answers.specs.declared.refusals.Refusal.{Refusal}
use Rattle.answers.specs.declared.refusals.Refusal.TheVariants.{NoMemory, Unspecified}
use Rattle.answers.specs.Outcome.{IsStop}
use Rattle.blif_in.specs.declared.reader.OrderedNetwork.{OrderedNetwork}
use Rattle.cubes.specs.Symbol.{digit, symbol_of}
use Rattle.kiss_file.specs.declared.fill.Fill.{Fill}
use Rattle.kiss_file.specs.declared.file.KissFile.{KissFile}
use Rattle.kiss2.specs.Kiss.{Kiss}
use Rattle.kiss_file.specs.LawfulFile.{IsLawful}
use Rattle.kiss_file.specs.Machine.{Accepted}
use Rattle.machine_table.specs.declared.open_part.Missing.{Missing}
use Rattle.net_core.specs.Blif.{Blif}
use Rattle.net_core.specs.Order.{IsOrderOf}
use Rattle.operands.specs.declared.opened_operands.OpenedMachine.{OpenedMachine}
use Rattle.operands.specs.Causes.{Conflicts, LeavesOpen, OfFile, SaysNoMachine, SaysNoNetwork}

-- the refusal names an open entry: its state by name, and its symbol by digits
abbrev pub IsEntryRefusal : KissFile → ℕ → ℕ → Missing → Refusal → Type 0
IsEntryRefusal F s x part refusal =
    (name : List ℕ) × (refusal ≡ Unspecified name (map digit (symbol_of F.inputs x)) part) × (slice_get F.states s ≡ Some name)

-- the refusal that a file calls for, or that memory ran out
abbrev pub IsMachineRefusal : Fill → KissFile → Refusal → Type 0
IsMachineRefusal fill F refusal = (refusal ≡ NoMemory) ⊎ Conflicts F refusal ⊎ LeavesOpen fill F refusal

-- the machine of a file, or the refusal that the file calls for
abbrev pub IsMachineOf : Fill → KissFile → Result KissFile Refusal → Type 0
IsMachineOf fill F (Ok machine) = (machine ≡ F) × Accepted F fill
IsMachineOf fill F (Err refusal) = IsMachineRefusal fill F refusal

-- the same with the record of the file
abbrev pub IsBuiltOf : Fill → KissFile → Result OpenedMachine Refusal → Type 0
IsBuiltOf fill F (Ok opened) = (opened.file ≡ F) × (opened.machine ≡ F) × Accepted F fill
IsBuiltOf fill F (Err refusal) = IsMachineRefusal fill F refusal

-- the machine that bytes denote, or the refusal that they call for
abbrev pub IsReadOf : Fill → List ℕ → Result OpenedMachine Refusal → Type 0
IsReadOf fill bytes (Ok opened) = Kiss bytes opened.file × IsLawful opened.file × Accepted opened.file fill × (opened.machine ≡ opened.file)
IsReadOf fill bytes (Err refusal) =
    (refusal ≡ NoMemory) ⊎ SaysNoMachine bytes refusal ⊎ OfFile bytes Conflicts refusal ⊎ OfFile bytes (LeavesOpen fill) refusal

-- the network that bytes denote with an order of its gates, or the refusal that they call for
abbrev pub IsReadAs : List ℕ → Result OrderedNetwork Refusal → Type 0
IsReadAs bytes (Ok opened) = Blif bytes opened.net × IsOrderOf opened.net opened.order
IsReadAs bytes (Err refusal) = IsStop (SaysNoNetwork bytes) refusal
