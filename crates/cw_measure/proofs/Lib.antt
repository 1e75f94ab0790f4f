pub mod Holding
pub mod MeasureLaws
pub mod PieceWeightLaws
pub mod StrandWeightLaws
