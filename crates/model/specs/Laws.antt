-- The codes in the documents' words; the theorems are in proofs/.
pub mod Codes
