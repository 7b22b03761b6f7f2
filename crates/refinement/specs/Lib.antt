pub mod ClockLaw
pub mod Lateness
pub mod CallLists
pub mod Performing
