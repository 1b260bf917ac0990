mod Exact
mod ReadBack
mod Split
