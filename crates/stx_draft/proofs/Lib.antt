pub mod PartLaws
pub mod GrowthLaws
pub mod DocumentLaws
pub mod DraftLaws
