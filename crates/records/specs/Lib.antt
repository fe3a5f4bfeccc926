pub mod Said
pub mod Criteria
pub mod Values
pub mod Keyed
pub mod Asks
pub mod Free
pub mod Tables
