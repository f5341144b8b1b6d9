pub mod Entering
pub mod Held
pub mod Asking
pub mod Reports
pub mod ByCalls
pub mod Lines
