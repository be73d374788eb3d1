pub mod PlainPlaces
pub mod Putting
