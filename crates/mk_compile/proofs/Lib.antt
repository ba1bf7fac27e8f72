mod Banks
mod Codes
mod Corrects
mod Emitted
mod Gives
mod Sharings
mod Right
mod Whole
mod Wires
mod Meanings
mod Sizes
mod Compiling
pub mod Maps
