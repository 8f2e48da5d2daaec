-- Networks that can be written.
use Rattle.std.specs.Prelude.{◌≡◌, ◌≢◌, ℕ, true, IsTrue, List, length}
use Rattle.std.specs.List.{AllByRecursion}
use Rattle.hs_io.specs.Spelling.{IsPlainField}
use Rattle.net_core.specs.declared.Gate.{Gate}
use Rattle.net_core.specs.declared.Latch.{Latch}
use Rattle.net_core.specs.declared.Network.{Network}
use Rattle.net_core.specs.Statements.{is_plane_character}

-- a name that can be a field and does not join lines
pub record IsSignalName (name : List ℕ) : Type 0 where
  pub field : IsPlainField name
  pub no_backslash : AllByRecursion (λ b. b ≢ 92) name

-- a row of the characters 0, 1 and dash, one for each input
pub record IsPlane (inputs : ℕ) (row : List ℕ) : Type 0 where
  pub characters : AllByRecursion (λ c. IsTrue (is_plane_character c)) row
  pub width : length row ≡ inputs

pub record IsWritableGate (gate : Gate) : Type 0 where
  pub inputs : AllByRecursion IsSignalName gate.inputs
  pub output : IsSignalName gate.output
  pub rows : AllByRecursion (IsPlane (length gate.inputs)) gate.rows
  pub on : gate.on ≡ true

pub record IsWritableLatch (latch : Latch) : Type 0 where
  pub input : IsSignalName latch.input
  pub output : IsSignalName latch.output

-- its names can be in a text, and its gates list their on-sets
pub record IsWritable (N : Network) : Type 0 where
  pub inputs : AllByRecursion IsSignalName N.inputs
  pub outputs : AllByRecursion IsSignalName N.outputs
  pub latches : AllByRecursion IsWritableLatch N.latches
  pub gates : AllByRecursion IsWritableGate N.gates
