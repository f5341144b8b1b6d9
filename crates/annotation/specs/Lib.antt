pub mod Faults
pub mod Calls
pub mod Evaluated
pub mod Building
