pub mod Calls
pub mod Judge
pub mod Stages
pub mod Laws
