pub mod Module
pub mod Pair
pub mod Bernstein
pub mod Form
pub mod Layout
pub mod Laws
