pub mod Edits
pub mod Carried
pub mod Widths
pub mod Leave
pub mod Alone
pub mod Stay
pub mod Does
