-- Document 01's codes, and document 02's: what each means.
pub mod Statement
