pub mod Rewritten
pub mod Formed
pub mod Blocks
pub mod Banks
pub mod Cleaning
