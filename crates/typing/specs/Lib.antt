pub mod View
pub mod Rooms
pub mod Making
pub mod Outcomes
pub mod Held
pub mod Growing
