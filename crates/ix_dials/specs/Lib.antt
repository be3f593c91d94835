pub mod Dials
