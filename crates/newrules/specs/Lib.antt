pub mod NewRules
