pub mod Blocks
mod Carried
mod Copies
mod Laws
