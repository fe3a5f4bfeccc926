pub mod Promise
pub mod Batch
pub mod Alone
pub mod Tries
pub mod Within
