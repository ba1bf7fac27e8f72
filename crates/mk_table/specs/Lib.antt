pub mod Coefficients
pub mod Classes
pub mod ClassImages
pub mod Source
pub mod Table
