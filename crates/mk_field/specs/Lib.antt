pub mod Field
pub mod Sharing
pub mod Laws
pub mod Powers
pub mod Digits
pub mod Maps
