pub mod BuiltIn
pub mod Memory
pub mod Rooms
pub mod Names
