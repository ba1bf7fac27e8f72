pub mod Operators
pub mod Trees
pub mod Carried
pub mod Kept
pub mod Different
pub mod Merges
pub mod Equal
pub mod Marks
pub mod Placing
pub mod Reached
pub mod Whole
pub mod Meaning
pub mod Uses
pub mod Counts
pub mod Only
mod Examples
pub mod Found
