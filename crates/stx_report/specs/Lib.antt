pub mod SummaryText
pub mod inner
