-- The first fault of a BLIF text (source: the SIS manual, narrowed to this product's profile).
use Rattle.std.specs.Prelude.{◌≡◌, ℕ, ◌==◌, ◌⊎◌, Bool, not, if◌then◌else◌, ⊤, Option, Some, None, List, [], ◌∷◌, ◌++◌, find, length, map}
use Rattle.std.specs.Option.{option_map, option_or}
use Rattle.std.specs.List.{filter_map, flat_map, list_any}
use Rattle.std.specs.Str.{bytes_eq}
use Rattle.net_core.specs.declared.Network.{Network}
use Rattle.net_core.specs.declared.causes.NetFail.{NetFail}
use Rattle.net_core.specs.Blif.{Blif, IsWithinLimits}
use Rattle.net_core.specs.Causes.{AreAlike, IsCause, IsOfNetwork}
use Rattle.net_core.specs.Denotation.{Denotes}
use Rattle.net_core.specs.SoundNetwork.{driven_by}
use Rattle.net_core.specs.Statements.{Statement, NumberedStatement, statements_of, said_in, inputs_in, outputs_in, latch_in, clocks_in, gates_of}
use Rattle.blif_in.specs.declared.fault.BlifFail.{BlifFail}
use Rattle.blif_in.specs.declared.fault.BlifFail.TheVariants.{Refused, NoMemory}
use Rattle.blif_in.specs.declared.fault.BlifFault.{BlifFault}
use Rattle.blif_in.specs.declared.fault.BlifKind.{BlifKind}
use Rattle.blif_in.specs.declared.fault.BlifKind.TheVariants.{Clocks, NoModel, Structure}
use Rattle.blif_in.specs.Faults.{fault_in}

-- the first fault of statements, with the number of its line, given the statements before them
abbrev pub first_fault : List Statement → List NumberedStatement → Option BlifFault
first_fault earlier [] = None
first_fault earlier (statement ∷ statements) =
    option_or
    (option_map (λ kind. record { line = statement.number; kind = kind }) (fault_in earlier statement))
    (first_fault (statement.says ∷ earlier) statements)

-- the record of statements
abbrev pub network_of : List Statement → Network
network_of said =
    record {
      inputs = flat_map inputs_in said;
      outputs = flat_map outputs_in said;
      latches = filter_map latch_in said;
      gates = gates_of said;
    }

-- the statement names a clock
abbrev pub names_clock : NumberedStatement → Bool
names_clock statement = not (length (clocks_in statement.says) == 0)

-- the names that latches and gates drive
abbrev pub driven_within : Network → List (List ℕ)
driven_within N = map (λ latch. latch.output) N.latches ++ driven_by N.gates

-- a latch or a gate of the network drives the clock that this statement is the first to name
abbrev pub clock_fault : Network → Option NumberedStatement → Option BlifFault
clock_fault N None = None
clock_fault N (Some statement) =
    if list_any (λ clock. list_any (bytes_eq clock) (driven_within N)) (clocks_in statement.says) then Some (record { line = statement.number; kind = Clocks }) else None

-- the fault of the statements as a whole, if none of them has one: there is no statement, or the clock is driven
abbrev pub closing_fault : List NumberedStatement → Option BlifFault
closing_fault statements =
    if length statements == 0 then Some (record { line = 0; kind = NoModel }) else clock_fault (network_of (map (λ statement. statement.says) statements)) (find names_clock statements)

-- the first fault of a text, unless it is that the network is not sound
abbrev pub text_fault : List NumberedStatement → Option BlifFault
text_fault statements = option_or (first_fault [] statements) (closing_fault statements)

-- the network is not sound, for this cause
pub record IsStructureFault (N : Network) (fault : BlifFault) : Type 0 where
  pub fail : NetFail
  pub of_network : IsOfNetwork fail
  pub cause : IsCause N fail
  pub is : fault ≡ record { line = 0; kind = Structure fail }

-- the first fault of the statements, or of their network
abbrev pub IsFaultOf : List NumberedStatement → BlifFault → Type 0
IsFaultOf statements fault =
    (text_fault statements ≡ Some fault)
    ⊎ ((text_fault statements ≡ None) × IsStructureFault (network_of (map (λ statement. statement.says) statements)) fault)

-- the first fault of the bytes
abbrev pub IsBlifFault : List ℕ → BlifFault → Type 0
IsBlifFault bytes fault = IsFaultOf (statements_of bytes) fault

-- both say why the network is not sound, and the causes are alike: where there are several cycles, it may be any of them
abbrev pub AreAlikeCauses : BlifKind → BlifKind → Type 0
AreAlikeCauses (Structure fail) (Structure other) = AreAlike fail other
AreAlikeCauses _ _ = ⊥

abbrev pub AreKindsAlike : BlifKind → BlifKind → Type 0
AreKindsAlike kind other = (kind ≡ other) ⊎ AreAlikeCauses kind other

pub record AreFaultsAlike (fault other : BlifFault) : Type 0 where
  pub line : fault.line ≡ other.line
  pub kind : AreKindsAlike fault.kind other.kind

-- it is this fault, or memory ran out
abbrev pub TellsOf : BlifFault → BlifFail → Type 0
TellsOf fault (Refused other) = AreFaultsAlike fault other
TellsOf fault NoMemory = ⊤

-- no text both is a BLIF text of a network and has a fault
abbrev pub NeverBoth : Type 0
NeverBoth = (bytes : List ℕ) (N : Network) (fault : BlifFault) → Blif bytes N → IsBlifFault bytes fault → ⊥

-- a text has at most one first fault
abbrev pub OneFault : Type 0
OneFault = (bytes : List ℕ) (fault other : BlifFault) → IsBlifFault bytes fault → IsBlifFault bytes other → AreFaultsAlike fault other

-- a text denotes a network within the limits exactly where it has no fault, unless it is that the network is not sound
pub record IsFaultlessText (bytes : List ℕ) : Type 0 where
  pub denotes : text_fault (statements_of bytes) ≡ None → Denotes bytes (network_of (said_in bytes)) × IsWithinLimits bytes (network_of (said_in bytes))
  pub faultless : (N : Network) → Denotes bytes N → IsWithinLimits bytes N → text_fault (statements_of bytes) ≡ None

abbrev pub FaultlessDenotes : Type 0
FaultlessDenotes = (bytes : List ℕ) → IsFaultlessText bytes
