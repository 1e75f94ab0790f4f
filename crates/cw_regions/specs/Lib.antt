pub mod RegionRows
pub mod Regions
pub mod lemmas
