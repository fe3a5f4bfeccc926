pub mod Bits
pub mod Numbered
pub mod Remembering
