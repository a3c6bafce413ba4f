pub mod Logs
pub mod Asking
