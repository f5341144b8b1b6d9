pub mod Judged
pub mod Seens
pub mod Held
pub mod Walked
pub mod Entered
