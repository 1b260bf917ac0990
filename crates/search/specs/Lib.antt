pub mod Search
pub mod Calls
pub mod Courses
pub mod Law
pub mod Examples
pub mod Points
pub mod Text
