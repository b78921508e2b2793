mod Left
mod Lengths
mod Stores
mod Held
