pub mod Lone
pub mod Sound
pub mod Places
pub mod Emptied
