pub mod Fraction
pub mod Exponential
pub mod Logarithm
pub mod Exact
pub mod Laws
