pub mod Wire
pub mod Pieces
pub mod Stages
pub mod Steppers
pub mod Rows
pub mod Ends
pub mod Order
