pub mod Steps
pub mod Packed
pub mod Growing
pub mod Exact
pub mod Chunks
