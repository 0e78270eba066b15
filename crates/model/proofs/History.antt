-- The history on bytes, and its premise and claim as executable tests.
pub mod OnBytes
pub mod Tests
