pub mod Front
pub mod Count
