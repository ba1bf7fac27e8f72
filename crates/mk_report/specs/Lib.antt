pub mod Reached
pub mod Report
pub mod Rows
pub mod Passing
