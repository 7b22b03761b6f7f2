pub mod Naming
pub mod Tiling
pub mod Choosing
pub mod Reading
pub mod Writing
pub mod Returning
pub mod Sources
