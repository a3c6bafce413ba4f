pub mod Flaws
pub mod Tree
pub mod Laws
