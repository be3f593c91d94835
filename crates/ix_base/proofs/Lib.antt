pub mod Bytes
pub mod Files
pub mod Prefixes
pub mod OffsetLaws
