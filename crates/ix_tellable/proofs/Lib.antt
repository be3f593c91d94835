pub mod Framed
pub mod Short
pub mod Obeys
pub mod Parts
pub mod Records
