pub mod SearchLaws
pub mod StepLaws
pub mod WayLaws
pub mod DepthLaws
pub mod TreeLaws
