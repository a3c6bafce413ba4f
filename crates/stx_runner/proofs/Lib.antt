pub mod ListLaws
pub mod SlotLaws
pub mod DriveLaws
pub mod RunLaws
