pub mod Bytes
pub mod LittleEndian
pub mod LittleEndianLaws
