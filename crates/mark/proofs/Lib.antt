pub mod Bits
pub mod Passes
