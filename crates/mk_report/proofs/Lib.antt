pub mod Ascending
pub mod Bits
pub mod Stepping
pub mod Listed
pub mod Turning
pub mod Telling
pub mod Texts
mod Worked
