-- Theorems about the line runner's definitions.
pub mod Feeding
pub mod Runner
pub mod Work
pub mod Progress
pub mod Machine
pub mod Stream
