mod Lists
mod Runs
mod Settled
mod Rounds
