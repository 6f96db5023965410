pub mod Values
pub mod Whole
pub mod Ranges
pub mod Units
pub mod Nearest
pub mod Operations
pub mod Errors
