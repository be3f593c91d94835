pub mod Ports
pub mod Asked
