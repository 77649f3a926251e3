pub mod Cursors
pub mod Views
