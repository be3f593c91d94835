pub mod Fronts
pub mod Rings
pub mod Bounds
pub mod Carried
pub mod Histories
pub mod ToldItems
pub mod CourseLaws
