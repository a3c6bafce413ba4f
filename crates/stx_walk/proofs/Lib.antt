pub mod LeafLaws
pub mod WalkLaws
