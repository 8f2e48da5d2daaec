mod Judging
mod Missing
mod BlockNames
mod Naming
mod Making
mod LongNames
mod Planning
mod OwnBits
