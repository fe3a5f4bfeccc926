pub mod Full
pub mod First
pub mod Refuse
