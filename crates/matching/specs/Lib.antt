pub mod Verdicts
pub mod Shapes
pub mod Settings
pub mod Stacks
