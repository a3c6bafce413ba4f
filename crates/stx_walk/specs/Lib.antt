pub mod Schema
pub mod Walk
pub mod inner
