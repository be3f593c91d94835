pub mod WriteLaws
pub mod NameLaws
pub mod LineLaws
pub mod AgainLaws
