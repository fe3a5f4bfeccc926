pub mod Ended
pub mod Many
pub mod Sent
pub mod Keeping
pub mod Pieces
pub mod Whole
