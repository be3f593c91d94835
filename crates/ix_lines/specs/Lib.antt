pub mod Names
pub mod Words
pub mod Read
pub mod Laws
