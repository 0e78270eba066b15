pub mod SideBySide
pub mod Rights
pub mod Block
pub mod Fresh
