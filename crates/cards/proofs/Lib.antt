pub mod Growing
pub mod Packing
pub mod Counting
pub mod Streaming
