pub mod RowLaws
pub mod RegionLaws
