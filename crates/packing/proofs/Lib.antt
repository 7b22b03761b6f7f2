pub mod Bytes
pub mod OneBlock
pub mod Growing
pub mod ReadBack
pub mod EightDigits
