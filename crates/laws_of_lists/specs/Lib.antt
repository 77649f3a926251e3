pub mod All
pub mod Tests
pub mod Each
