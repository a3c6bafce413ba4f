pub mod RunTool
