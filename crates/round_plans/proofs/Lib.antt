mod Steps
mod Lists
mod Regions
mod Candidates
