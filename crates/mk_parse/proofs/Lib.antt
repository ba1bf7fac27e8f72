mod ReaderLaws
mod Joined
mod Choices
mod Many
pub mod Decoding
mod Terminals
mod Loops
mod IndexPhrases
mod ExpressionPhrases
mod KindTests
mod StatementPhrases
pub mod Gaps
pub mod Munching
pub mod Placing
pub mod Lexed
pub mod Refusals
mod Few
