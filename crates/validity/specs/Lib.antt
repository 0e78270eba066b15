pub mod Sizes
pub mod Pieces
pub mod Search
pub mod Words
pub mod Order
