pub mod Line
pub mod Surveying
