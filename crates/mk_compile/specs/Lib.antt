pub mod RightValues
pub mod Emitting
pub mod Positions
pub mod Correct
pub mod MadeFor
pub mod Compiled
