pub mod Joined
pub mod Stepped
pub mod Labelled
pub mod Ends
pub mod Order
