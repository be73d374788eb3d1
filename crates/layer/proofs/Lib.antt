pub mod Putting
pub mod TurnPlaces
pub mod TurnPuts
pub mod WindowPlaces
pub mod WindowPuts
