-- Words of this crate's own functions and invariants; no caller needs them.
pub mod Kept
pub mod KeptWorks
pub mod RowValues
pub mod Places
pub mod Decisions
pub mod Commits
