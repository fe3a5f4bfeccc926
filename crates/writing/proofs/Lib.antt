pub mod Texts
pub mod InSpace
pub mod FieldTexts
pub mod LineTexts
pub mod Widths
