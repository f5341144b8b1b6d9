mod Tops
mod Valids
mod Readings
mod Places
mod Turns
