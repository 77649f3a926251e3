pub mod Chunks
pub mod RestOfList
