pub mod Stacks
pub mod Lending
pub mod inner
