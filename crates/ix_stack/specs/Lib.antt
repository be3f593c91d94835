pub mod Items
pub mod Works
