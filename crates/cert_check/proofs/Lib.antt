mod Turning
mod BorderCosts
mod Overloads
mod Shapes
