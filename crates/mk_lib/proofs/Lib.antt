pub mod Form
pub mod Sound
pub mod Complete
pub mod Naming
