pub mod Finding
pub mod NextPassing
