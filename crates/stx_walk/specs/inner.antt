-- Words of this crate's own functions; no caller needs them.
pub mod Places
