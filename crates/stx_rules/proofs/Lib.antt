pub mod PartLaws
pub mod DepthLaws
pub mod WinnerLaws
pub mod NearestLaws
