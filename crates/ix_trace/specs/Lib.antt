pub mod Sheet
pub mod Machine
pub mod Reading
pub mod Rule
