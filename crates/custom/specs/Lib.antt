pub mod Customs
pub mod Entries
pub mod Held
pub mod Worlds
pub mod Pairs
