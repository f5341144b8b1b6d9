pub mod Grows
mod Flats
