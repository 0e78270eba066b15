-- Demand 3 and document 01's other claims: the history of a bank, what is claimed of it, executable tests of it, and how it runs on bytes; the proofs are the
-- crate history. What document 02 claims of clean slots, proved in Laws/Clean, of a conversion and of a bank taken over, proved in Laws/Conversion,
-- of what an access logs, proved in Laws/Logged, and of the stores that calls cost, proved in Laws/Wear.
pub mod Statement
pub mod Banks
pub mod RecoveryStatement
pub mod ReplayEndsStatement
pub mod AloneStatement
pub mod CleanStatement
pub mod ConversionStatement
pub mod CellsStatement
pub mod ServedStatement
pub mod PeersStatement
pub mod LogsStatement
pub mod WearStatement
