pub mod Verdict
pub mod Gadgets
pub mod Laying
pub mod Passing
pub mod Outlines
pub mod Plans
pub mod Given
