mod Runs
mod Walking
