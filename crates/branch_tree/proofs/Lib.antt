mod Paths
mod Least
mod Parts
mod Shown
mod Walked
