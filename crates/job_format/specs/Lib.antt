pub mod Tags
pub mod Limits
pub mod Frames
pub mod Bodies
pub mod Order
pub mod Contents
pub mod Encoding
