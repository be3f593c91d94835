pub mod Sums
pub mod EpochLaws
pub mod SettleLaws
pub mod OwnLaws
pub mod HomeLaws
