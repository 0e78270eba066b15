-- The line runner: definitions and laws.
pub mod Definitions
pub mod Feeding
pub mod Clauses
pub mod Laws
