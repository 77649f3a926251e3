pub mod Within
pub mod Back
