pub mod Searches
pub mod Last
pub mod Items
pub mod Members
pub mod Ascends
pub mod Small
