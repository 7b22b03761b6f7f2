pub mod Blocks
pub mod Kinds
pub mod Table
