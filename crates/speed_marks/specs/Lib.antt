pub mod Marks
pub mod Sets
pub mod Standing
pub mod AtSpeeds
pub mod AnyClass
