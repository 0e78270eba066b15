pub mod Definitions
pub mod Clauses
pub mod Moves
pub mod Likeness
pub mod Laws
pub mod History
