pub mod Answers
pub mod BorderCosts
pub mod Shapes
pub mod Overloads
