pub mod Lists
pub mod There
pub mod InOrder
pub mod Evaluations
mod Examples
