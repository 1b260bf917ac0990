pub mod Answers
pub mod Hex
pub mod Kinds
pub mod Lines
