pub mod Trees
pub mod Simplified
pub mod Renumbering
