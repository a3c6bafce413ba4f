pub mod DrawLaws
pub mod WholeLaws
pub mod ValidLaws
pub mod WorkedDraws
