pub mod Printings
pub mod Splitting
