pub mod JobLaws
pub mod NumberLaws
