pub mod Acts
pub mod States
pub mod Runs
pub mod Throughout
