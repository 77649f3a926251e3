pub mod RefusalLine
pub mod Parts
