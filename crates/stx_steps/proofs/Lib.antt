pub mod Coming
pub mod Dealings
pub mod RoundLaws
pub mod BodyLaws
pub mod Hearing
pub mod Falling
