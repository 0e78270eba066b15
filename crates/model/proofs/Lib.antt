-- Theorems about the definitions.
pub mod Laws
pub mod History
