mod Clocks
mod Families
mod Making
mod OneAnswer
mod Registers
mod Reports
mod Runs
mod Symbols
