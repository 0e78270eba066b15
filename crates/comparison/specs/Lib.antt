pub mod Naming
pub mod Left
pub mod Matched
