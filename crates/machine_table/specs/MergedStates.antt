-- The next states of two states, merged in a partition of the states.
pub use Rattle.state_pairs.specs.MergedStates.{MergesImages, MergesPairs}
