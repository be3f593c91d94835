pub mod OptionLaws
pub mod FrameLaws
pub mod WrittenLaws
pub mod OtherLaws
