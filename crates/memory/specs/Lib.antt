pub mod Bank
pub mod Fault
pub mod Meaning
pub mod Keeping
pub mod OnlyWords
pub mod Split
