pub mod EndLaws
pub mod InputLaws
pub mod PlayableLaws
pub mod ResponseLaws
