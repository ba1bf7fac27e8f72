pub mod Refusals
pub mod Seed
pub mod Tapes
pub mod Tally
pub mod Table
pub mod Runs
pub mod Examples
