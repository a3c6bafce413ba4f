pub mod CostLaws
pub mod RankLaws
pub mod RowLaws
pub mod WeighLaws
pub mod SearchLaws
pub mod GraphLaws
