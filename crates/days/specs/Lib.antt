pub mod Day
pub mod Calendar
