pub mod ReadLaws
pub mod TableLaws
