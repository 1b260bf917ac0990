pub mod Growth
pub mod Words
