pub mod OutLaws
pub mod SettleLaws
