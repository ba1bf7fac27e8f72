pub mod Counts
pub mod CountsExpr
pub mod Environments
pub mod ExpressionsStand
pub mod IndexUnits
pub mod Beginnings
pub mod OutputsStand
pub mod Stands
pub mod StatementsStand
pub mod UnrolledLayers
pub mod Unrolls
pub mod Bounded
pub mod Counting
pub mod Finding
pub mod Storing
pub mod Keeping
pub mod Holding
pub mod Typed
pub mod Running
pub mod FirstOperands
pub mod Ending
pub mod Outset
mod Worked
mod WorkedCounts
