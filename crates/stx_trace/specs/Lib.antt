pub mod LineKinds
pub mod LineTexts
