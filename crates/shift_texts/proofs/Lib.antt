mod Commenting
mod Judging
mod Registering
mod Writing
