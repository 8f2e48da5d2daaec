-- A machine never leaves its states.
pub use Rattle.state_pairs.specs.NextStates.{NeverLeaves}
