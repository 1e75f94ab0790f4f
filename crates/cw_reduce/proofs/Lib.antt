pub mod IntegerLaws
pub mod SumLaws
pub mod ShownTellLaws
