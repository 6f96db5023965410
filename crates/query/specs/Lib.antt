pub mod Names
pub mod Meaning
pub mod Naming
pub mod Pattern
