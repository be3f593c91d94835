pub mod Sum
pub mod Packet
pub mod Header
pub mod SumLaws
