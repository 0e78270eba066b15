pub mod Asks
pub mod Needs
pub mod Results
pub mod BlockReplay
pub mod Ends
pub mod Prepared
