pub mod Locks
pub mod inner
