pub mod NewRight
