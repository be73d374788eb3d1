pub mod Accepting
pub mod Bytes
pub mod Reading
pub mod States
pub mod Calls
pub mod File
