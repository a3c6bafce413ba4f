pub mod NumbersLaws
pub mod NumberLaws
pub mod DuplicateLaws
pub mod SentenceLaws
