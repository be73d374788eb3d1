pub mod Best
pub mod Choosing
pub mod Tallying
