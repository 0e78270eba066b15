-- A line's text: definitions, the words of the contracts, laws.
pub mod Definitions
pub mod Clauses
pub mod Laws
