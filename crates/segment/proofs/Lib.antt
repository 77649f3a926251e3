pub mod Laws
pub mod Ends
pub mod Signs
pub mod Eggs
pub mod Curve
pub mod Fields
pub mod LineLaws
