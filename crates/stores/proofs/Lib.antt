pub mod Storing
pub mod KeptStoring
