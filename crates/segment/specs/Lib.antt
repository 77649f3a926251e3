pub mod Segment
pub mod Sizes
pub mod Cases
pub mod Short
pub mod Line
