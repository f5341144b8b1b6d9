pub mod Rows
pub mod Readings
pub mod Members
pub mod Measures
pub mod Samples
