pub mod SlotParts
pub mod Sets
pub mod Cells
