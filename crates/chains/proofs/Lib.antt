pub mod Chaining
pub mod Earlier
pub mod ChainPassing
pub mod Blocking
pub mod Walks
