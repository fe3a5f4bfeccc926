pub mod Loops
pub mod Capped
pub mod CommandPadding
pub mod ShapeRows
pub mod FieldNumbers
pub mod Readings
pub mod LineCallers
