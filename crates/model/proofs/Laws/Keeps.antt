-- Each micro-step keeps a well-formed bank well formed, with the guards that it needs (calls: Laws/Moves); and what the tests of a call leave.
pub mod Clauses
pub mod Peers
pub mod NotedRecords
pub mod Stores
pub mod Checkpoint
pub mod Accesses
pub mod Rights
pub mod Givers
pub mod Fetches
pub mod Copies
pub mod Replay
pub mod Live
pub mod Entered
