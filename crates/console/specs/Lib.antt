pub mod Listing
pub mod Memories
pub mod Shown
