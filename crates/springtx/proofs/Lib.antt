pub mod ToolLaws
pub mod ValidLaws
