pub mod Choosing
pub mod Lawful
