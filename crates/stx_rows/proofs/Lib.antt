pub mod UndoLaws
pub mod ChangeLaws
pub mod RowsLaws
