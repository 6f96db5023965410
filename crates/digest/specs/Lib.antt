pub mod Digest
pub mod Mistake
