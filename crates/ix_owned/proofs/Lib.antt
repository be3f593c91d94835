pub mod Sums
pub mod Homes
pub mod Out
pub mod Apart
pub mod Report
