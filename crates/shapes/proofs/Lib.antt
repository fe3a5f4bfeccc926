pub mod Choices
pub mod NumberRule
pub mod TableRule
