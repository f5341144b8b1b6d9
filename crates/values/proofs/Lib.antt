mod Numbers
pub mod Eaches
pub mod Says
