-- The limits of a BLIF text, statement by statement. Each is a property of a statement and of the list of those before it,
-- which begins with the last one.
use Rattle.std.specs.Prelude.{◌≡◌, ℕ, ◌-◌, ◌↔◌, Bool, false, true, nat_lt, ⊤, List, [], ◌∷◌, count_by, length}
use Rattle.std.specs.List.{filter_map, flat_map, list_any}
use Rattle.net_core.specs.declared.Network.{Network}
use Rattle.net_core.specs.Blif.{IsWithinLimits, names_in}
use Rattle.net_core.specs.Denotation.{Denotes}
use Rattle.net_core.specs.Statements.{Statement, Names, said_in, inputs_in, outputs_in, latch_in}

pub data StatementLimit : Type 0 where
  NameBytes : StatementLimit
  InputCount : StatementLimit
  OutputCount : StatementLimit
  LatchCount : StatementLimit
  GateCount : StatementLimit
  GateInputs : StatementLimit

abbrev pub is_names : Statement → Bool
is_names (Names names) = true
is_names _ = false

-- the last of a gate's names is its output
abbrev pub reads_too_many : Statement → Bool
reads_too_many (Names names) = nat_lt 256 (length names - 1)
reads_too_many _ = false

-- a name of the statement is too long, or the statement brings a count over its limit
abbrev pub goes_over : StatementLimit → List Statement → Statement → Bool
goes_over NameBytes earlier statement = list_any (λ name. nat_lt 64 (length name)) (names_in statement)
goes_over InputCount earlier statement = nat_lt 256 (length (flat_map inputs_in (statement ∷ earlier)))
goes_over OutputCount earlier statement = nat_lt 256 (length (flat_map outputs_in (statement ∷ earlier)))
goes_over LatchCount earlier statement = nat_lt 256 (length (filter_map latch_in (statement ∷ earlier)))
goes_over GateCount earlier statement = nat_lt 65536 (count_by is_names (statement ∷ earlier))
goes_over GateInputs earlier statement = reads_too_many statement

-- none of the statements goes over the limit, given those before it
abbrev pub KeepsLimit : StatementLimit → List Statement → List Statement → Type 0
KeepsLimit limit earlier [] = ⊤
KeepsLimit limit earlier (statement ∷ statements) = (goes_over limit earlier statement ≡ false) × KeepsLimit limit (statement ∷ earlier) statements

-- a text that denotes a network is within the limits exactly where none of its statements goes over one
abbrev pub LimitsByStatement : Type 0
LimitsByStatement =
    (bytes : List ℕ) (N : Network) → Denotes bytes N → IsWithinLimits bytes N ↔ ((limit : StatementLimit) → KeepsLimit limit [] (said_in bytes))
