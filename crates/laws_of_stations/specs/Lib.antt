pub mod Next
pub mod Stations
pub mod Visits
pub mod ListingRun
