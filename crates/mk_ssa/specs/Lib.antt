pub mod Kinds
pub mod Operators
pub mod Values
pub mod Denoted
pub mod Evaluation
pub mod Widths
