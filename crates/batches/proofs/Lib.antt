pub mod Counting
pub mod Filling
pub mod Placing
pub mod Taking
