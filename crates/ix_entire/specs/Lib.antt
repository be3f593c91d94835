pub mod Entire
