pub mod Channels
pub mod Predictor
pub mod Layout
pub mod Numbering
pub mod Corner
pub mod CornerMeaning
pub mod Spots
