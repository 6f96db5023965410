pub mod Folds
pub mod Turns
