pub mod Lists
pub mod Told
pub mod Digits
pub mod Wanted
