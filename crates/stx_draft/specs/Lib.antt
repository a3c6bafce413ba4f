pub mod Parts
pub mod DeclaredNames
pub mod Document
pub mod Draft
pub mod inner
