pub mod TextLaws
pub mod KeptLaws
pub mod ValueLaws
pub mod PlaceLaws
pub mod SliceLaws
pub mod RulesLaws
pub mod RuledLaws
