-- What the definitions compute: document 01's marked cases, with document 02's, worked histories, and what the line runner prints; tables with their
-- theorems. They stand apart from the definitions because they take longer to compute than all laws together to check.
pub mod Evaluate
pub mod Digest
pub mod Table
pub mod Conversions
pub mod Cells
pub mod Holders
pub mod Peers
pub mod Logs
pub mod Slots
pub mod Wear
pub mod Worked
pub mod Running
pub mod Computed
pub mod OnBank
pub mod Marked
pub mod Histories
pub mod Readings
pub mod Runner
