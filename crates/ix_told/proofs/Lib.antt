pub mod EntryLaws
pub mod CycleLaws
pub mod ReadingLaws
pub mod CuttingLaws
pub mod ConnectLaws
pub mod RunLaws
pub mod StrayLaws
pub mod FitLaws
