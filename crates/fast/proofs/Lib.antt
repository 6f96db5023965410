pub mod Patterns
pub mod Narrowing
pub mod Placing
pub mod Rounding
pub mod Casting
