pub mod Turns
pub mod Rising
