pub mod Tagged
pub mod Walks
pub mod Finding
pub mod Digits
pub mod Framing
pub mod Entries
pub mod Exacts
pub mod Rising
