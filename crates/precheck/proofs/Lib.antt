pub mod Alone
pub mod Runs
pub mod Singly
pub mod Tries
pub mod Within
