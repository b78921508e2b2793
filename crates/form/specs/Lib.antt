pub mod Lease
pub mod Marks
pub mod Form
pub mod Cut
pub mod Reads
