pub mod Records
pub mod Corner
pub mod Held
pub mod Sound
pub mod Judgement
pub mod Model
