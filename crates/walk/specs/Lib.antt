pub mod FittingRows
pub mod NotBelow
pub mod Parts
pub mod Inside
pub mod Multiples
pub mod Walks
pub mod AllChunks
