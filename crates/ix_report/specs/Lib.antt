pub mod Lines
pub mod Named
pub mod Fits
pub mod Sound
