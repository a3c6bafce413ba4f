pub mod ShapeLaws
pub mod ReadLaws
pub mod AcceptedLaws
pub mod QuietDrafts
pub mod NoDuplicates
