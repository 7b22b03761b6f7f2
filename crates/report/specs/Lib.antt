pub mod Buffer
pub mod ListingLine
pub mod ListedClock
