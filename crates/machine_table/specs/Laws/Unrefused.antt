-- An accepted file has a machine: only memory can be wanting.
use Rattle.std.proofs.Common.{◌≡◌, ◌≢◌, ℕ, ◌+◌, ◌<◌, ◌⊎◌, inl, inr, refl, sym, ◌∙◌, arith}
use Rattle.cubes.specs.Symbol.{symbol_of}
use Rattle.cubes.specs.Laws.Numbers.{length-symbol_of}
use Rattle.kiss_file.specs.declared.fill.Fill.{Fill}
use Rattle.kiss_file.specs.declared.fill.Fill.TheVariants.{Refuse, Hold}
use Rattle.kiss_file.specs.declared.file.KissFile.{KissFile}
use Rattle.kiss_file.specs.Machine.{Accepted, IsSpecifiedAt, Specified}
use Rattle.machine_table.specs.declared.builder.BuildFail.{BuildFail}
use Rattle.machine_table.specs.declared.builder.BuildFail.TheVariants.{Conflict, Unspecified, NoMemory}
use Rattle.machine_table.specs.declared.open_part.Missing.{Missing}
use Rattle.machine_table.specs.declared.open_part.Missing.TheVariants.{Next, Output}
use Rattle.machine_table.specs.Cause.{Caused}
use Rattle.machine_table.specs.OpenEntries.{IsFirstOpen, IsSaid}
use Rattle.machine_table.specs.Laws.Conflicts.{conflicting_at}

-- of a specified file each entry is said
said_of : (F : KissFile) (s x : ℕ) (part : Missing) → IsSpecifiedAt F s (symbol_of F.inputs x) → IsFirstOpen F s x part → IsSaid F s x part
said_of F s x Next said first = said.next
said_of F s x (Output b) said first = said.outputs b (let below : b + 1 < F.outputs + 1 = first.entry.kind in omega arith)

pub none_open : (F : KissFile) (s x : ℕ) (part : Missing) → IsFirstOpen F s x part → Specified F → ⊥
none_open F s x part first specified =
    first.open_there (said_of F s x part (specified s (symbol_of F.inputs x) first.entry.among_states (length-symbol_of F.inputs x)) first)

-- a file that is filled is not refused for what is open
filled_unrefused : (F : KissFile) (fill : Fill) (s x : ℕ) (part : Missing) → Specified F ⊎ (fill ≡ Hold) → fill ≡ Refuse → IsFirstOpen F s x part → ⊥
filled_unrefused F fill s x part (inl specified) refused first = none_open F s x part first specified
filled_unrefused F fill s x part (inr held) refused first = let both : Hold ≡ Refuse = sym held ∙ refused in cc

-- an accepted file has a machine
pub build_unrefused : (F : KissFile) (fill : Fill) (fail : BuildFail) → Accepted F fill → fail ≢ NoMemory → Caused F fill fail → ⊥
build_unrefused F fill (Conflict a b) accepted other (i, j, first, second, two) = accepted.no_conflict (conflicting_at F i j two.contradict)
build_unrefused F fill (Unspecified s x part) accepted other cause = filled_unrefused F fill s x part accepted.filled cause.refused cause.entry
build_unrefused F fill NoMemory accepted other cause = other refl
