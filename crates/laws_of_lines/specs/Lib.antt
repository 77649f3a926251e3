pub mod Fits
pub mod Buffer
pub mod AnyContract
pub mod Opposite
