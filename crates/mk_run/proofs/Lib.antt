pub mod OneTable
pub mod Elements
pub mod Shares
pub mod Entries
pub mod Tallying
pub mod Numbers
pub mod Rows
pub mod Worlds
