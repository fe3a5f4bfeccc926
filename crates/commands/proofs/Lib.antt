pub mod Decoded
pub mod Narrow
