pub mod Clauses
pub mod OneMemory
