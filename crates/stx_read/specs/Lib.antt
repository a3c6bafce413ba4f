pub mod Reading
pub mod Shaped
