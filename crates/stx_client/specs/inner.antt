-- Words of this crate's own functions and invariants; no caller needs them.
pub mod Keeps
