pub mod Options
pub mod Jobs
