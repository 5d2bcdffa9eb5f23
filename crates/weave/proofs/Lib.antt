mod Owning
mod Runs
mod Stepping
