pub mod WorkedRun
pub mod Laws
