pub mod Standing
pub mod Complete
