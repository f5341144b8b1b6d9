pub mod Limits
pub mod Written
pub mod Outcomes
pub mod Code
pub mod Tasks
pub mod Samples
