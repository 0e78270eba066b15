-- Theorems that rest on what a call answers (specs/Results), so that an edit of that is refused.
pub mod Prepared
pub mod Repeated
