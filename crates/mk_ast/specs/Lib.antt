pub mod Tokens
pub mod Phrases
pub mod Grammar
pub mod Spells
pub mod Canonical
pub mod Regular
pub mod Places
