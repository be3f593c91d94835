pub mod Clients
pub mod Draws
pub mod Foreign
pub mod Rounds
pub mod Settings
pub mod Summary
pub mod Texts
pub mod Wire
