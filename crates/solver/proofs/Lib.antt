mod Runs
mod Work
