pub mod Functions
pub mod Figures
pub mod Theorems
pub mod Arguments
pub mod Inner
pub mod PowerArguments
pub mod PowerBounds
