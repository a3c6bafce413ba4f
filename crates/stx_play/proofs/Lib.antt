pub mod TurnLaws
pub mod RangeLaws
pub mod PlayedLaws
pub mod ScheduleLaws
mod NewLaws
pub mod CommitLaws
