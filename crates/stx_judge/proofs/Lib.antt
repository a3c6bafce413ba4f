pub mod SearchLaws
pub mod CountLaws
pub mod CycleLaws
pub mod OrderLaws
pub mod ParentLaws
pub mod CallLaws
pub mod JudgeLaws
