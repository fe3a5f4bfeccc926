pub mod Stages
pub mod Within
