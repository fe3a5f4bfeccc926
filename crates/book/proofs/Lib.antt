pub mod Looking
pub mod Place
pub mod Lists
pub mod SameBooks
pub mod NoRecords
pub mod Facts
pub mod Found
pub mod Placed
