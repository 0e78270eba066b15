pub mod Head
pub mod Refusals
pub mod Findings
pub mod Admission
