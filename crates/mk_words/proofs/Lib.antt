pub mod Commands
pub mod Digits
pub mod Decimals
pub mod Asking
