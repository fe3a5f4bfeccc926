pub mod Tables
pub mod SetLines
pub mod Sizes
pub mod Stepping
pub mod KelerCallers
