pub mod Early
pub mod Readings
pub mod Responses
pub mod Ends
pub mod Programs
