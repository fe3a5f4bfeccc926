pub mod Promise
pub mod Taking
