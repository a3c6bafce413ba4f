pub mod RunToolLaws
