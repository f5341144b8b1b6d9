pub mod Fronts
pub mod Texts
pub mod Alternatives
pub mod Arguments
pub mod Reading
