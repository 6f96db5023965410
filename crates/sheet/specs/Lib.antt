pub mod Faults
pub mod Pegs
pub mod Calls
pub mod Histories
pub mod Lists
