-- Words of this crate's own functions and invariants; no caller needs them.
pub mod Rows
pub mod Rounds
pub mod Cycles
pub mod Costs
