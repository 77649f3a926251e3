pub mod Ends
pub mod Onward
pub mod Lists
pub mod Parts
