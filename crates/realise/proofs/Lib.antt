pub mod AskedRows
pub mod EqualReads
pub mod FilledRows
pub mod FlatNetworks
pub mod Free
pub mod GateLists
pub mod Stepping
