pub mod Answers
pub mod Numbered
