pub mod Bits
pub mod Format
pub mod Runs
pub mod Streams
pub mod Told
