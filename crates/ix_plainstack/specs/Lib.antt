pub mod Numbers
pub mod Kept
pub mod Batches
pub mod Owning
pub mod Stack
pub mod Weights
pub mod Out
pub mod Standing
