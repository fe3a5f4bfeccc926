pub mod Taken
pub mod Left
