pub mod Attained
pub mod Pushed
pub mod Numbers
