pub mod Readers
pub mod Reading
pub mod Lexing
pub mod Answers
pub mod Parsed
