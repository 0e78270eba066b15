-- Document 01, with document 02's F-1 to F-8, as definitions, in its order, and its stores on one board by itself. No proof stands
-- here: what guards these definitions is under Laws and in the crate cases.
pub mod Parts
pub mod Layout
pub mod Bank
pub mod Codec
pub mod WellFormed
pub mod Check
pub mod Steps
pub mod BoardRuns
pub mod Replay
pub mod Answers
pub mod Logs
pub mod Calls
pub mod Older
