pub mod Known
pub mod Layers
pub mod Least
pub mod Lists
pub mod Accepted
pub mod ExecutionLayers
pub mod MapNumbers
pub mod RegularParts
pub mod Faults
pub mod Sources
mod Worked
mod WorkedExecution
