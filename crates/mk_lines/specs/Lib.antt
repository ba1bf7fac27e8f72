pub mod Words
pub mod Lines
pub mod CertLines
pub mod CodeLines
pub mod Parsing
pub mod Cutting
