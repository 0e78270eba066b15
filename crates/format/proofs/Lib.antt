pub mod LentArea
pub mod Selectors
