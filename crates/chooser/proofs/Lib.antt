pub mod Tallies
pub mod Totals
pub mod Along
pub mod Firsts
pub mod Leads
pub mod ByIndex
pub mod Even
pub mod Examples
