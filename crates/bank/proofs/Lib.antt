mod Turns
mod Areas
mod Blocks
