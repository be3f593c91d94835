pub mod Bits
pub mod Toeplitz
pub mod Key
pub mod Group
