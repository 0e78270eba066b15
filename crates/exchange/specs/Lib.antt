pub mod Fetching
pub mod ReadFetches
pub mod Progress
pub mod LentRuns
