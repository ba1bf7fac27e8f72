pub mod Encodings
pub mod Banks
