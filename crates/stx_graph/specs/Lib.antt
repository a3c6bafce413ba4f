pub mod Ranks
pub mod Graph
pub mod inner
