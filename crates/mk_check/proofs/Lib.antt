pub mod Lists
pub mod Marking
pub mod Rows
pub mod Alone
pub mod Banks
pub mod Block
pub mod Outs
pub mod Planned
pub mod Reading
pub mod Stepping
pub mod Over
pub mod Claimed
pub mod Verdicts
mod Examples
