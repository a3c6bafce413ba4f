-- Words of this crate's own functions and invariants; no caller needs them.
pub mod Rule
pub mod Steps
pub mod TableSeats
