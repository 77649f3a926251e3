pub mod Answers
pub mod Answered
pub mod Calls
pub mod Recorded
pub mod OneRecord
pub mod RecordedRows
pub mod Listing
