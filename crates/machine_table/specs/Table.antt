-- The files that have machines.
pub use Rattle.state_pairs.specs.Table.{IsTable}
