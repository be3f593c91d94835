pub mod Epochs
pub mod Laws
pub mod Playing
pub mod Ready
pub mod Rest
pub mod Weights
pub mod Workers
