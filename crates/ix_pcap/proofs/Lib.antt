pub mod RecordLaws
pub mod WrittenLaws
