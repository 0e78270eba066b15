-- Theorems about a line's text.
pub mod Numbers
pub mod Lines
pub mod Output
pub mod Tally
