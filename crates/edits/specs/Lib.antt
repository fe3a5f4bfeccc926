pub mod Leaves
pub mod Moves
pub mod Edit
