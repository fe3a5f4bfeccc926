pub mod Commands
pub mod Submits
