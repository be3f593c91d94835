pub mod Request
pub mod Store
pub mod KeyValue
pub mod Answers
