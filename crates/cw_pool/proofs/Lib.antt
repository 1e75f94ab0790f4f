pub mod Stacking
pub mod Joins
pub mod Seating
