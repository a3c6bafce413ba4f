pub mod Carrying
pub mod Lending
