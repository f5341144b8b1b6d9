pub mod Sures
pub mod Finish
