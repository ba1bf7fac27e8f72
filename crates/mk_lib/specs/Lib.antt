pub mod Text
pub mod Texts
pub mod Sample
pub mod Reading
