pub mod Going
pub mod Next
pub mod AllChunksLaws
pub mod ToCome
