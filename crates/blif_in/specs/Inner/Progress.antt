-- What the reader keeps of a text up to a line.
use Rattle.std.specs.Prelude.{◌≡◌, ℕ, ◌<◌, false, true, if◌then◌else◌, ⊤, Option, Some, None, Result, Ok, Err, List, [], find, length}
use Rattle.std.specs.List.{list_any}
use Rattle.std.specs.Option.{option_map}
use Rattle.std.specs.Str.{bytes_eq}
use Rattle.hs_io.specs.declared.lines.Line.{Line}
use Rattle.net_core.specs.declared.Network.{Network}
use Rattle.net_core.specs.Statements.{Statement}
use Rattle.blif_in.specs.declared.fault.BlifFail.{BlifFail}
use Rattle.blif_in.specs.declared.fault.BlifFail.TheVariants.{Refused, NoMemory}
use Rattle.blif_in.specs.declared.fault.BlifFault.{BlifFault}
use Rattle.blif_in.specs.declared.fault.BlifKind.TheVariants.{Clocks}
use Rattle.blif_in.specs.declared.progress.FirstClock.{FirstClock}
use Rattle.blif_in.specs.declared.progress.Progress.{Progress}
use Rattle.blif_in.specs.Inner.Standing.{Stands}
use Rattle.blif_in.specs.Inner.LineStatements.{numbered}
use Rattle.blif_in.specs.Text.{clock_fault, driven_within, first_fault, names_clock}

-- the name of a clock
abbrev pub clock_name : Option FirstClock → Option (List ℕ)
clock_name clock = option_map (λ first. first.name) clock

-- a clock that the line of this number names first
abbrev pub clock_at : ℕ → List ℕ → FirstClock
clock_at line name = record { name = name; line = line }

-- the fault that the network drives this clock
abbrev pub fault_of : Network → FirstClock → Option BlifFault
fault_of N clock =
    if list_any (bytes_eq clock.name) (driven_within N) then Some (record { line = clock.line; kind = Clocks }) else None

-- the clock of the lines before the rest, and the line that names it first
abbrev pub IsFirstClock : Option FirstClock → List Line → List Line → Type 0
IsFirstClock None lines rest = find names_clock (numbered lines) ≡ find names_clock (numbered rest)
IsFirstClock (Some clock) lines rest = (N : Network) → clock_fault N (find names_clock (numbered lines)) ≡ fault_of N clock

-- what is kept of the lines before the rest, none of which has a fault
pub record IsReadTo (lines rest : List Line) (progress : Progress) : Type 0 where
  pub earlier : List Statement
  pub stands : Stands progress.summary (clock_name progress.clock) earlier
  pub first : first_fault [] (numbered lines) ≡ first_fault earlier (numbered rest)
  pub clock : IsFirstClock progress.clock lines rest
  pub nothing : progress.summary.begun ≡ false → rest ≡ lines
  pub some : progress.summary.begun ≡ true → 0 < length lines

-- the answer is a value with the property, or the fault, or that memory ran out
abbrev pub Tells : {T : Type 0} → Result T BlifFail → Option BlifFault → (T → Type 0) → Type 0
Tells (Ok value) fault P = P value
Tells (Err (Refused told)) fault P = fault ≡ Some told
Tells (Err NoMemory) fault P = ⊤
