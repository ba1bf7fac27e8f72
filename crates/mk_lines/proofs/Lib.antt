pub mod Steps
pub mod Numbers
pub mod Loops
pub mod Spelled
pub mod Variants
pub mod Feeds
pub mod ByLines
pub mod Fields
