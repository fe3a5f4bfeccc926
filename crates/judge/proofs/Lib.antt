pub mod Judging
pub mod VerdictReturns
pub mod Listing
pub mod RulesRight
pub mod VerdictRight
pub mod ExemptedRight
pub mod Starting
