pub mod Digits
pub mod Standard
pub mod Orders
