pub mod Search
pub mod Multiples
pub mod Along
