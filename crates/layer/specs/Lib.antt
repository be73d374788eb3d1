pub mod Over
pub mod Turn
pub mod TurnMeaning
pub mod Window
pub mod WindowMeaning
