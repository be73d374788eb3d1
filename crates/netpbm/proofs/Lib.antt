pub mod Running
pub mod Numerals
pub mod Pictures
