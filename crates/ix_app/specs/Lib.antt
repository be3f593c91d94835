pub mod Told
pub mod Handing
pub mod HandingLaws
