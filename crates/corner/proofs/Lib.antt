pub mod CornerPlaces
pub mod Locating
pub mod Median
