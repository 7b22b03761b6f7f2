pub mod Blocks
pub mod Packed
pub mod Digits
pub mod Lines
pub mod Texts
pub mod TextLaws
pub mod Messages
