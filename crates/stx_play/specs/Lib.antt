pub mod Play
pub mod inner
