pub mod Banks
pub mod Blocks
pub mod Copies
pub mod Directory
pub mod Drops
pub mod Exchanges
pub mod Walks
