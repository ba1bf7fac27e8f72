pub mod Outside
pub mod Fed
pub mod Streams
pub mod Digits
pub mod Inputs
