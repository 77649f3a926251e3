pub mod Lists
pub mod Text
pub mod SingleCalls
pub mod Blade
pub mod ListedPegs
pub mod AtPegs
