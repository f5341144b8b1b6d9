pub mod Beginnings
pub mod Checked
pub mod Going
