pub mod Places
pub mod Reads
pub mod Alike
pub mod Buckets
pub mod Kind
pub mod Kinds
