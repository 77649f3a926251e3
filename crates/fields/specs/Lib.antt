pub mod Reads
pub mod Onward
pub mod Fits
