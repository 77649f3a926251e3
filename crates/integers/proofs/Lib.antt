pub mod RoundingLaws
pub mod WidthLaws
