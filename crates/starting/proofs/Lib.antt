pub mod Started
pub mod Left
