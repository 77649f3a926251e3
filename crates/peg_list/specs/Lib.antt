pub mod Pegs
pub mod Search
pub mod Answers
pub mod Rows
