mod Joining
mod Standing
mod Bringing
mod Flow
mod Taking
pub mod Wiring
mod Worked
mod Naming
mod Placing
pub mod Blocks
pub mod Fitting
mod Differing
mod Fitted
pub mod Using
mod Hops
mod Reaching
mod Gathering
mod Marked
mod Holding
mod Alike
mod TakingOut
mod Serving
