pub mod Ten
pub mod Differences
pub mod Filled
pub mod Meets
pub mod Nobody
pub mod Holds
pub mod TableFacts
pub mod Tables
