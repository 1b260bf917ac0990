pub mod Limits
pub mod Text
