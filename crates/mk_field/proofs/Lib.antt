pub mod Sum
pub mod Bits
pub mod Bytes
pub mod Exponents
pub mod Tables
pub mod Product
pub mod Raised
