pub mod Clauses
pub mod RunLaws
pub mod RunFields
pub mod Lifted
pub mod Store
pub mod Flush
pub mod Checkpoint
