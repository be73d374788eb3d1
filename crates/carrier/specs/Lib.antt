pub mod Blanked
pub mod Meaning
pub mod Plain
pub mod PlainMeaning
pub mod Storing
pub mod Through
