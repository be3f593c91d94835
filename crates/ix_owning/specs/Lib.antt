pub mod Owning
