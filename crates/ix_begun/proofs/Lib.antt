pub mod Bare
pub mod Dialed
pub mod Through
pub mod Homes
pub mod Card
pub mod Beginning
