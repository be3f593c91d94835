pub mod FrameLemmas
pub mod AgainLemmas
pub mod NumberLemmas
pub mod SegmentLemmas
pub mod PartLemmas
pub mod ExpiryLemmas
pub mod CycleLemmas
pub mod RangeLemmas
