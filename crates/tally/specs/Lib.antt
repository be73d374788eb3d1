pub mod Tally
pub mod Choice
pub mod Text
