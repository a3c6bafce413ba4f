pub mod Deeds
pub mod inner
