pub mod Options
pub mod Segment
pub mod Frame
pub mod Written
