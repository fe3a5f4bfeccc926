pub mod RowValues
pub mod Ranged
pub mod MarksRight
