pub mod Space
pub mod Written
