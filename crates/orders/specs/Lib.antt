pub mod Orders
pub mod Refusals
pub mod Lines
pub mod Answers
